-- Calls on one file, and what they leave of the others.
use Rattle.std.proofs.Common.{◌≡◌, ◌≢◌, inl, inr, ℕ, ◌≤◌, Bool, true, false, List, [], ◌∷◌, ◌++◌, length, refl, sym, ◌∙◌, ap, subst, arith, append_assoc}
use Rattle.std.proofs.lemmas.List.{append_cancel_right}
use Rattle.sr_site.specs.Inner.Calls.{Call, write, cut, sync}
use Rattle.sr_site.specs.Files.{Files, bytes_of, with_bytes, OthersStay}
use Rattle.sr_site.specs.Inner.Growing.{throughout_each}
use Rattle.sr_site.specs.Happenings.{Happening, Throughout, attached, wrote, cut_to, synced, listed, fetched, sent, removed, handed_over}
use Rattle.sr_site.specs.Inner.Happenings.{happening, Made}
use Rattle.sr_site.specs.Images.{MayLeave, IsSettled, RestsThroughout}
use Rattle.sr_site.specs.Seen.{Seen}
use Rattle.sr_site.specs.declared.file.File.{File}
use Rattle.sr_database_files.specs.Inner.Touching.{IsOn, AreOn, HappenedOn}
use Rattle.sr_database_files.proofs.Images.{its_bytes, as_it_is, stay_on, stays}

-- ---- happenings to one file

abbrev pub IsCallOn : File → Call → Type 0
IsCallOn file (write f place bytes) = f ≡ file
IsCallOn file (cut f to) = f ≡ file
IsCallOn file (sync f) = f ≡ file

abbrev pub AreCallsOn : File → List Call → Type 0
AreCallsOn file [] = Unit {0}
AreCallsOn file (call ∷ calls) = IsCallOn file call × AreCallsOn file calls

on_happening : (file : File) (call : Call) (done : Bool) (after : List ℕ) → IsCallOn file call → IsOn file (happening call done after)
on_happening file (write f place bytes) done after is = is
on_happening file (cut f to) done after is = is
on_happening file (sync f) done after is = is

are_on_more : (file : File) (more : List Happening) (step : Happening) → AreOn file more → IsOn file step → AreOn file (more ++ step ∷ [])
are_on_more file [] step all is = (is, tt)
are_on_more file (x ∷ more) step all is = (all.0, are_on_more file more step all.1 is)

-- what was made of calls on a file happened to it
pub made_on : (file : File) (calls : List Call) (before now : List Happening) (done : Bool) → AreCallsOn file calls → Made calls before now done → HappenedOn file before now
made_on file [] before now done all made = record { more = []; is = made.0; on = tt }
made_on file (call ∷ calls) before now done all (after, inl failed) = record { more = happening call false after ∷ []; is = failed.0; on = (on_happening file call false after all.0, tt) }
made_on file (call ∷ calls) before now done all (after, inr onward) =
    let rest = made_on file calls (happening call true after ∷ before) now done all.1 onward in
    record {
      more = rest.more ++ happening call true after ∷ [];
      is = rest.is ∙ sym (append_assoc rest.more (happening call true after ∷ []) before);
      on = are_on_more file rest.more (happening call true after) rest.on (on_happening file call true after all.0);
    }

are_on_on : (file : File) (later more : List Happening) → AreOn file later → AreOn file more → AreOn file (later ++ more)
are_on_on file [] more one other = other
are_on_on file (step ∷ later) more one other = (one.0, are_on_on file later more one.1 other)

pub on_on : (file : File) (before middle now : List Happening) → HappenedOn file before middle → HappenedOn file middle now → HappenedOn file before now
on_on file before middle now one other =
    record {
      more = other.more ++ one.more;
      is = other.is ∙ ap (λ (h : List Happening). other.more ++ h) one.is ∙ sym (append_assoc other.more one.more before);
      on = are_on_on file other.more one.more other.on one.on;
    }

pub on_wrote : (file : File) (place : ℕ) (bytes after : List ℕ) (done : Bool) (before now : List Happening) → now ≡ wrote file place bytes done after ∷ before → HappenedOn file before now
on_wrote file place bytes after done before now is = record { more = wrote file place bytes done after ∷ []; is = is; on = (refl, tt) }

pub on_cut : (file : File) (to : ℕ) (after : List ℕ) (done : Bool) (before now : List Happening) → now ≡ cut_to file to done after ∷ before → HappenedOn file before now
on_cut file to after done before now is = record { more = cut_to file to done after ∷ []; is = is; on = (refl, tt) }

pub on_synced : (file : File) (after : List ℕ) (done : Bool) (before now : List Happening) → now ≡ synced file done after ∷ before → HappenedOn file before now
on_synced file after done before now is = record { more = synced file done after ∷ []; is = is; on = (refl, tt) }

pub on_nothing : (file : File) (before now : List Happening) → now ≡ before → HappenedOn file before now
on_nothing file before now is = record { more = []; is = is; on = tt }

pub ruleset touching = (on_on, on_wrote, on_cut, on_synced)

longer : (calls : List Call) (before now : List Happening) (done : Bool) → Made calls before now done → length before ≤ length now
longer [] before now done made = omega (arith, ap length made.0)
longer (call ∷ calls) before now done (after, inl failed) = omega (arith, ap length failed.0)
longer (call ∷ calls) before now done (after, inr onward) = omega (arith, longer calls (happening call true after ∷ before) now done onward)

pub something : (call : Call) (calls : List Call) (before now : List Happening) (done : Bool) → Made (call ∷ calls) before now done → ¬ (now ≡ before)
something call calls before now done (after, inl failed) same = absurd (omega (arith, ap length failed.0, ap length same))
something call calls before now done (after, inr onward) same = absurd (omega (arith, longer calls (happening call true after ∷ before) now done onward, ap length same))

-- ---- images of the others

-- an image that stood before, but for one file
pub record IsBeside (file : File) (first : Files) (before : List Happening) (image : Files) : Type 0 where
  pub old : Files
  pub there : MayLeave first before old
  pub others : OthersStay file old image

module _ (file : File) (first : Files) (before : List Happening) where
  step_beside : (old image : Files) → OthersStay file old image → IsBeside file first before old → IsBeside file first before image
  step_beside old image others beside = record { old = beside.old; there = beside.there; others = stay_on file beside.old old image beside.others others }

  turned : (f : File) (old image : Files) → f ≡ file → OthersStay f old image → OthersStay file old image
  turned f old image is others = subst (λ (h : File). OthersStay h old image) is others

  synced_others : (f : File) (old image : Files) (after : List ℕ) → image ≡ with_bytes old f after → OthersStay f old image
  synced_others f old image after is = is ∙ ap (λ (l : List ℕ). with_bytes old f l) (sym (ap (λ (x : Files). bytes_of x f) is ∙ its_bytes old f after))

  images_beside : (more : List Happening) (image : Files) → AreOn file more → MayLeave first (more ++ before) image → IsBeside file first before image
  images_beside [] image all there = record { old = image; there = there; others = as_it_is image file }
  images_beside (attached name folder done ∷ more) image all there = absurd all.0
  images_beside (wrote f place bytes done after ∷ more) image all (old, there, others, torn) = step_beside old image (turned f old image all.0 others) (images_beside more old all.1 there)
  images_beside (cut_to f to done after ∷ more) image all (old, there, others, torn) = step_beside old image (turned f old image all.0 others) (images_beside more old all.1 there)
  images_beside (synced f true after ∷ more) image all (old, there, is) = step_beside old image (turned f old image all.0 (synced_others f old image after is)) (images_beside more old all.1 there)
  images_beside (synced f false after ∷ more) image all there = images_beside more image all.1 there
  images_beside (listed address folder listing ∷ more) image all there = absurd all.0
  images_beside (fetched address name limit found ∷ more) image all there = absurd all.0
  images_beside (sent address name bytes done ∷ more) image all there = absurd all.0
  images_beside (removed address name done ∷ more) image all there = absurd all.0
  images_beside (handed_over folders noted ∷ more) image all there = absurd all.0

  -- at each moment each image is one that stood before, but for this file
  moments_beside : (more : List Happening) → AreOn file more → Throughout (λ moment. (image : Files) → MayLeave first moment image → IsBeside file first before image) before more
  moments_beside [] all = λ image there. images_beside [] image tt there
  moments_beside (step ∷ more) all = (λ image there. images_beside (step ∷ more) image all there, moments_beside more all.1)

pub beside : (file : File) (before now : Seen) → HappenedOn file before.happened now.happened → RestsThroughout (IsBeside file before.first before.happened) before now
beside file before now on = record { more = on.more; is = on.is; moments = moments_beside file before.first before.happened on.more on.on }

-- ---- what rests

pub rests_each : (P Q : Files → Type 0) (before now : Seen) → ((image : Files) → P image → Q image) → RestsThroughout P before now → RestsThroughout Q before now
rests_each P Q before now each rests =
    record {
      more = rests.more;
      is = rests.is;
      moments = throughout_each (λ moment. (image : Files) → MayLeave before.first moment image → P image) (λ moment. (image : Files) → MayLeave before.first moment image → Q image)
          (λ moment at image there. each image (at image there)) before.happened rests.more rests.moments;
    }

throughout_both : (P Q : List Happening → Type 0) (before more : List Happening) → Throughout P before more → Throughout Q before more → Throughout (λ moment. P moment × Q moment) before more
throughout_both P Q before [] one other = (one, other)
throughout_both P Q before (step ∷ more) one other = ((one.0, other.0), throughout_both P Q before more one.1 other.1)

pub rests_both : (P Q : Files → Type 0) (before now : Seen) → RestsThroughout P before now → RestsThroughout Q before now → RestsThroughout (λ image. P image × Q image) before now
rests_both P Q before now one other =
    let same : other.more ≡ one.more = append_cancel_right other.more one.more before.happened (sym other.is ∙ one.is) in
    let theirs = subst (λ (more : List Happening). Throughout (λ moment. (image : Files) → MayLeave before.first moment image → Q image) before.happened more) same other.moments in
    record {
      more = one.more;
      is = one.is;
      moments = throughout_each (λ moment. ((image : Files) → MayLeave before.first moment image → P image) × ((image : Files) → MayLeave before.first moment image → Q image))
          (λ moment. (image : Files) → MayLeave before.first moment image → P image × Q image) (λ moment at image there. (at.0 image there, at.1 image there)) before.happened one.more
          (throughout_both (λ moment. (image : Files) → MayLeave before.first moment image → P image) (λ moment. (image : Files) → MayLeave before.first moment image → Q image) before.happened one.more one.moments theirs);
    }

-- at the beginning alone
pub rests_here : (P : Files → Type 0) (before now : Seen) → now.happened ≡ before.happened → IsSettled P before → RestsThroughout P before now
rests_here P before now is settled = record { more = []; is = is; moments = settled }

-- what holds of another file of each image goes on to hold
pub rests_beside : (P : List ℕ → Type 0) (file other : File) (before now : Seen) → file ≢ other → HappenedOn file before.happened now.happened → IsSettled (λ image. P (bytes_of image other)) before
    → RestsThroughout (λ image. P (bytes_of image other)) before now
rests_beside P file other before now n on settled =
    rests_each (IsBeside file before.first before.happened) (λ image. P (bytes_of image other)) before now
    (λ image was. subst P (sym (stays file other was.old image n was.others)) (settled was.old was.there)) (beside file before now on)
