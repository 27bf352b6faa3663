-- How a database is made.
use Rattle.std.proofs.Common.{◌≡◌, ◌≢◌, inl, inr, ℕ, Bool, true, false, List, [], ◌∷◌, ◌++◌, Some, refl, sym, ◌∙◌, ap, subst, arith, append_assoc}
use Rattle.std.specs.Prelude.{◌%◌, ◌==◌, if◌then◌else◌}
use Rattle.sr_base.specs.Fields.{IsName}
use Rattle.sr_book.specs.Entries.{Name}
use Rattle.sr_logfile.specs.Inner.Records.{fresh_bytes}
use Rattle.sr_logfile.proofs.Records.{spells_fresh}
use Rattle.sr_logfile.specs.Inner.Calls.{fresh_calls}
use Rattle.sr_site.specs.Files.{Files, bytes_of, with_bytes}
use Rattle.sr_site.specs.Happenings.{Happening, Throughout, attached, wrote, cut_to, synced, listed, fetched, sent, removed, handed_over}
use Rattle.sr_site.specs.Inner.Happenings.{Made}
use Rattle.sr_site.specs.Images.{MayLeave, IsImage, IsSettled, RestsThroughout}
use Rattle.sr_site.specs.Seen.{Seen}
use Rattle.sr_site.specs.declared.file.File.{File}
use Rattle.sr_site.specs.declared.file.File.TheVariants.{Root, Log0, Log1, Snap0, Snap1}
use Rattle.sr_database_meaning.specs.Generations.{Generation, even, odd, generation_in}
use Rattle.sr_database_meaning.specs.Inner.Snapshots.{fresh_snapshot}
use Rattle.sr_database_meaning.specs.Standing.{StandsFor}
use Rattle.sr_database_meaning.proofs.Standing.{stands_for}
use Rattle.sr_database_files.specs.Fresh.{IsNoneOrNew}
use Rattle.sr_database_files.specs.Inner.Fresh.{AreNamed, AreNewOf, AreNew, IsNoneOrNewOf}
use Rattle.sr_database_files.specs.Inner.Making.{HasSyncedRoot, HasNoRoot, IsReplaced}
use Rattle.sr_database_files.specs.Inner.Touching.{AreOn, HappenedOn, AreOff, HappenedOff}
use Rattle.sr_database_meaning.proofs.Resting.{rests_end, rests_on}
use Rattle.sr_database_files.proofs.Beside.{IsBeside, made_on, beside, rests_each}
use Rattle.sr_database_files.proofs.Images.{mixed, its_bytes, stays}

-- ---- happenings to other files

module _ (file : File) (first : Files) (before : List Happening) where
  -- the file of an image is that of an image before
  record IsAsBefore (image : Files) : Type 0 where
    old : Files
    there : MayLeave first before old
    same : bytes_of image file ≡ bytes_of old file

  on : (old image : Files) → bytes_of image file ≡ bytes_of old file → IsAsBefore old → IsAsBefore image
  on old image same was = record { old = was.old; there = was.there; same = same ∙ was.same }

  off_images : (more : List Happening) (image : Files) → AreOff file more → MayLeave first (more ++ before) image → IsAsBefore image
  off_images [] image off there = record { old = image; there = there; same = refl }
  off_images (attached name folder done ∷ more) image off there = absurd off.0
  off_images (wrote f place bytes done after ∷ more) image off (old, there, others, torn) = on old image (stays f file old image off.0 others) (off_images more old off.1 there)
  off_images (cut_to f to done after ∷ more) image off (old, there, others, torn) = on old image (stays f file old image off.0 others) (off_images more old off.1 there)
  off_images (synced f true after ∷ more) image off (old, there, is) =
      on old image (stays f file old image off.0 (is ∙ ap (λ (l : List ℕ). with_bytes old f l) (sym (ap (λ (x : Files). bytes_of x f) is ∙ its_bytes old f after)))) (off_images more old off.1 there)
  off_images (synced f false after ∷ more) image off there = off_images more image off.1 there
  off_images (listed address folder listing ∷ more) image off there = absurd off.0
  off_images (fetched address name limit found ∷ more) image off there = absurd off.0
  off_images (sent address name bytes done ∷ more) image off there = absurd off.0
  off_images (removed address name done ∷ more) image off there = absurd off.0
  off_images (handed_over folders noted ∷ more) image off there = absurd off.0

  off_moments : (P : List ℕ → Type 0) (more : List Happening) → AreOff file more → ((image : Files) → MayLeave first before image → P (bytes_of image file)) → Throughout (λ moment. (image : Files) → MayLeave first moment image → P (bytes_of image file)) before more
  off_moments P [] off holds = holds
  off_moments P (step ∷ more) off holds =
      (λ image there. let was = off_images (step ∷ more) image off there in subst P (sym was.same) (holds was.old was.there), off_moments P more off.1 holds)

pub rests_off : (P : List ℕ → Type 0) (file : File) (before now : Seen) → HappenedOff file before.happened now.happened → IsSettled (λ image. P (bytes_of image file)) before → RestsThroughout (λ image. P (bytes_of image file)) before now
rests_off P file before now off settled = record { more = off.more; is = off.is; moments = off_moments file before.first before.happened P off.more off.off settled }

are_off_more : (file : File) (later more : List Happening) → AreOff file later → AreOff file more → AreOff file (later ++ more)
are_off_more file [] more one other = other
are_off_more file (step ∷ later) more one other = (one.0, are_off_more file later more one.1 other)

pub off_on : (file : File) (before middle now : List Happening) → HappenedOff file before middle → HappenedOff file middle now → HappenedOff file before now
off_on file before middle now one other =
    record {
      more = other.more ++ one.more;
      is = other.is ∙ ap (λ (h : List Happening). other.more ++ h) one.is ∙ sym (append_assoc other.more one.more before);
      off = are_off_more file other.more one.more other.off one.off;
    }

-- calls on one file are off another
on_off : (f file : File) (more : List Happening) → f ≢ file → AreOn f more → AreOff file more
on_off f file [] n on = tt
on_off f file (attached name folder done ∷ more) n on = absurd on.0
on_off f file (wrote g place bytes done after ∷ more) n on = (λ same. n (sym on.0 ∙ same), on_off f file more n on.1)
on_off f file (cut_to g to done after ∷ more) n on = (λ same. n (sym on.0 ∙ same), on_off f file more n on.1)
on_off f file (synced g done after ∷ more) n on = (λ same. n (sym on.0 ∙ same), on_off f file more n on.1)
on_off f file (listed address folder listing ∷ more) n on = absurd on.0
on_off f file (fetched address name limit found ∷ more) n on = absurd on.0
on_off f file (sent address name bytes done ∷ more) n on = absurd on.0
on_off f file (removed address name done ∷ more) n on = absurd on.0
on_off f file (handed_over folders noted ∷ more) n on = absurd on.0

pub off_of_on : (f file : File) (before now : List Happening) → f ≢ file → HappenedOn f before now → HappenedOff file before now
off_of_on f file before now n on = record { more = on.more; is = on.is; off = on_off f file on.more n on.on }

pub log0_not_root : (before now : List Happening) → HappenedOn Log0 before now → HappenedOff Root before now
log0_not_root before now on = off_of_on Log0 Root before now (λ e. cc) on

pub log1_not_root : (before now : List Happening) → HappenedOn Log1 before now → HappenedOff Root before now
log1_not_root before now on = off_of_on Log1 Root before now (λ e. cc) on

pub snap0_not_root : (before now : List Happening) → HappenedOn Snap0 before now → HappenedOff Root before now
snap0_not_root before now on = off_of_on Snap0 Root before now (λ e. cc) on

pub snap1_not_root : (before now : List Happening) → HappenedOn Snap1 before now → HappenedOff Root before now
snap1_not_root before now on = off_of_on Snap1 Root before now (λ e. cc) on

-- ---- a file written anew

pub fresh_on : (file : File) (base : ℕ) (before now : List Happening) (done : Bool) → Made (fresh_calls file base) before now done → HappenedOn file before now
fresh_on file base before now done made = made_on file (fresh_calls file base) before now done (refl, (refl, (refl, tt))) made

-- ---- both generations

module _ (snapshot : List ℕ) (start a b c now : Seen)
    (log0 : IsReplaced Log0 (fresh_bytes 0) start a) (log1 : IsReplaced Log1 (fresh_bytes 0) a b) (snap0 : IsReplaced Snap0 snapshot b c) (snap1 : IsReplaced Snap1 snapshot c now) where
  pub new_settled : b.first ≡ a.first → c.first ≡ b.first → now.first ≡ c.first → HappenedOn Log1 a.happened b.happened → HappenedOn Snap0 b.happened c.happened → HappenedOn Snap1 c.happened now.happened
      → IsSettled (AreNewOf snapshot) now
  new_settled fb fc fn mb mc mn image there =
      record {
        snap0 = kept Snap0 snapshot c now fn snap0.settled (off_of_on Snap1 Snap0 c.happened now.happened (λ e. cc) mn) image there;
        snap1 = snap1.settled image there;
        log0 = kept Log0 (fresh_bytes 0) c now fn (kept Log0 (fresh_bytes 0) b c fc (kept Log0 (fresh_bytes 0) a b fb log0.settled (off_of_on Log1 Log0 a.happened b.happened (λ e. cc) mb))
            (off_of_on Snap0 Log0 b.happened c.happened (λ e. cc) mc)) (off_of_on Snap1 Log0 c.happened now.happened (λ e. cc) mn) image there;
        log1 = kept Log1 (fresh_bytes 0) c now fn (kept Log1 (fresh_bytes 0) b c fc log1.settled (off_of_on Snap0 Log1 b.happened c.happened (λ e. cc) mc)) (off_of_on Snap1 Log1 c.happened now.happened (λ e. cc) mn) image there;
      }
    where
      kept : (file : File) (bytes : List ℕ) (x y : Seen) → y.first ≡ x.first → IsSettled (λ image. bytes_of image file ≡ bytes) x → HappenedOff file x.happened y.happened → IsSettled (λ image. bytes_of image file ≡ bytes) y
      kept file bytes x y same settled off = rests_end (λ image. bytes_of image file ≡ bytes) x y same (rests_off (λ l. l ≡ bytes) file x y off settled)

-- ---- the root

synced_image : (before : Seen) (done : Bool) (image : Files) → IsImage before before.files → MayLeave before.first (synced Root done before.files.root ∷ before.happened) image → IsImage before image
synced_image before true image read (old, there, is) = subst (λ (x : Files). MayLeave before.first before.happened x) (sym is) (mixed Root before.first old before.files before.happened there read)
synced_image before false image read there = there

-- once the root is synced, what a crash may leave it might leave before
pub root_images : (read : Bool) (before now : Seen) → HasSyncedRoot read before now → IsImage before before.files → RestsThroughout (IsImage before) before now
root_images read before now has image =
    record { more = synced Root has.done before.files.root ∷ []; is = has.is; moments = (λ x there. synced_image before has.done x image there, λ x there. there) }

-- and where its length was read, its bytes are those that were read
pub root_read : (read : Bool) (before now : Seen) → HasSyncedRoot read before now → read ≡ true → now.first ≡ before.first → IsSettled (λ image. image.root ≡ before.files.root) now
root_read read before now has was same image there = by_done has.done (has.did was) has.is
  where
    by_done : (done : Bool) → done ≡ true → now.happened ≡ synced Root done before.files.root ∷ before.happened → image.root ≡ before.files.root
    by_done done did is =
        let at : MayLeave before.first (synced Root true before.files.root ∷ before.happened) image =
        subst (λ (d : Bool). MayLeave before.first (synced Root d before.files.root ∷ before.happened) image) did (subst (λ (h : List Happening). MayLeave before.first h image) is (subst (λ (f : Files). MayLeave f now.happened image) same there)) in
        ap (λ (x : Files). x.root) at.2

-- ---- what is made

-- the generations of an image that stood but for its root
still_new : (snapshot : List ℕ) (before : Seen) (image : Files) → IsSettled (AreNewOf snapshot) before → IsBeside Root before.first before.happened image → AreNewOf snapshot image
still_new snapshot before image settled was =
    let new = settled was.old was.there in
    record {
      snap0 = stays Root Snap0 was.old image (λ e. cc) was.others ∙ new.snap0;
      snap1 = stays Root Snap1 was.old image (λ e. cc) was.others ∙ new.snap1;
      log0 = stays Root Log0 was.old image (λ e. cc) was.others ∙ new.log0;
      log1 = stays Root Log1 was.old image (λ e. cc) was.others ∙ new.log1;
    }

module _ (snapshot : List ℕ) (before middle : Seen) (off : HappenedOff Root before.happened middle.happened) where
  -- while both generations are written, a crash leaves none
  pub unnamed : IsSettled HasNoRoot before → RestsThroughout (IsNoneOrNewOf snapshot) before middle
  unnamed settled = rests_each HasNoRoot (IsNoneOrNewOf snapshot) before middle (λ image none. inl none) (rests_off (λ l. l ≡ []) Root before middle off settled)

  -- while the root is written, both are new
  module _ (now : Seen) (on : HappenedOn Root middle.happened now.happened) (new : IsSettled (AreNewOf snapshot) middle) where
    pub naming : middle.first ≡ before.first → IsSettled HasNoRoot before → RestsThroughout (IsNoneOrNewOf snapshot) before now
    naming same settled =
        rests_on (IsNoneOrNewOf snapshot) before middle now same (unnamed settled)
        (rests_each (IsBeside Root middle.first middle.happened) (IsNoneOrNewOf snapshot) middle now (λ image was. inr (still_new snapshot middle image new was)) (beside Root middle now on))

    pub named_settled : now.first ≡ middle.first → IsSettled (λ image. image.root ≡ 0 ∷ []) now → IsSettled (AreNamed snapshot) now
    named_settled same root image there =
        record {
          new = still_new snapshot middle image new (rests_end (IsBeside Root middle.first middle.happened) middle now same (beside Root middle now on) image there);
          root_is = root image there;
        }

module _ (publisher : Name) (name : IsName publisher) where
  stands_new : (generation : Generation) (image : Files) → AreNew publisher image → generation_in image.root ≡ Some generation → StandsFor publisher [] 0 image
  stands_new even image new root =
      stands_for even publisher [] image (record { root = root; name = name; stored = tt; snapshot = new.snap0; log = spells_fresh 0 image.log0 (omega arith) new.log0 })
  stands_new odd image new root =
      stands_for odd publisher [] image (record { root = root; name = name; stored = tt; snapshot = new.snap1; log = spells_fresh 0 image.log1 (omega arith) new.log1 })

  pub named_stands : (image : Files) → AreNamed (fresh_snapshot publisher) image → StandsFor publisher [] 0 image
  named_stands image named = stands_new even image named.new (ap generation_in named.root_is)

  -- whatever its root, it is none or the new one
  any_root : (image : Files) → IsNoneOrNewOf (fresh_snapshot publisher) image → IsNoneOrNew publisher image
  any_root image (inl none) = inl none
  any_root image (inr new) = by_root image.root refl
    where
      named : (byte : ℕ) (rest : List ℕ) → image.root ≡ byte ∷ rest → IsNoneOrNew publisher image
      named byte rest is = inr (record { base = 0; stands = stands_new (if (byte % 2) == 0 then even else odd) image new (ap generation_in is) })

      by_root : (root : List ℕ) → image.root ≡ root → IsNoneOrNew publisher image
      by_root [] is = inl is
      by_root (byte ∷ rest) is = named byte rest is

  module _ (read : Bool) (before middle : Seen) (has : HasSyncedRoot read before middle) (image_read : IsImage before before.files) where
    -- while the root is looked at, nothing changes that a crash may leave
    pub looked_at : IsSettled (IsNoneOrNew publisher) before → RestsThroughout (IsNoneOrNew publisher) before middle
    looked_at settled = rests_each (IsImage before) (IsNoneOrNew publisher) before middle (λ x there. settled x there) (root_images read before middle has image_read)

    module _ (was : read ≡ true) (none : before.files.root ≡ []) (same : middle.first ≡ before.first) where
      pub none_there : IsSettled HasNoRoot middle
      none_there image there = root_read read before middle has was same image there ∙ none

      -- then it is made
      pub made_moments : (now : Seen) → (IsSettled HasNoRoot middle → RestsThroughout (IsNoneOrNewOf (fresh_snapshot publisher)) middle now) → IsSettled (IsNoneOrNew publisher) before → RestsThroughout (IsNoneOrNew publisher) before now
      made_moments now makes settled =
          rests_on (IsNoneOrNew publisher) before middle now same (looked_at settled)
          (rests_each (IsNoneOrNewOf (fresh_snapshot publisher)) (IsNoneOrNew publisher) middle now (λ image new. any_root image new) (makes none_there))
