-- A site goes through nothing, through one commit, through one put; and what a trace tells.
use Rattle.std.proofs.Common.{◌≡◌, ◌⊎◌, ℕ, Bool, List, [], ◌∷◌, ◌++◌, length, refl, sym, ◌∙◌, ap, subst, inl, inr, arith, append_assoc, length-append}
use Rattle.std.proofs.lemmas.List.{append-nil, append_cancel_left, append_cancel_right}
use Rattle.std.specs.List.{AllByRecursion}
use Rattle.sr_book.specs.Entries.{Name}
use Rattle.sr_database_history.specs.Recorded.{Recorded}
use Rattle.sr_site.specs.Files.{Files}
use Rattle.sr_site.specs.Happenings.{Happening, Throughout, attached, wrote, cut_to, synced, listed, fetched, sent, removed, handed_over, mail_in, IsCall}
use Rattle.sr_site.specs.Images.{MayLeave, IsImage, IsSettled, RestsThroughout}
use Rattle.sr_site.specs.Seen.{Seen}
use Rattle.sr_database_meaning.specs.Bases.{HasBase, KeepsBase}
use Rattle.sr_database_meaning.specs.Events.{Event, PutFile, commit, put, commits, puts, puts_in, attaches_in, IsBetween}
use Rattle.sr_database_meaning.specs.Inner.Events.{AreQuiet}
use Rattle.sr_database_meaning.specs.Standing.{StandsAs}
use Rattle.sr_database_meaning.specs.Traces.{HasJoints, Joint, MayStandFor, HasBegun, IsOnTrace, AtEach, Went}

-- ---- before an item

-- a trace of none has no item, one of one item has nothing before it
no_event : (prefix back : List Event) (event : Event) → [] ≡ prefix ++ event ∷ back → ⊥
no_event [] back event e = cc
no_event (x ∷ prefix) back event e = cc

nothing_before : (x : Event) (prefix back : List Event) (event : Event) → x ∷ [] ≡ prefix ++ event ∷ back → prefix ≡ []
nothing_before x [] back event e = refl
nothing_before x (y ∷ prefix) back event e = let rest : [] ≡ prefix ++ event ∷ back = cc in absurd (no_event prefix back event rest)

pub one_joint : (first : Files) (publisher : Name) (es : List Recorded) (before : List Happening) (x : Event) (more : List Happening) → ((image : Files) → MayLeave first before image → StandsAs publisher es image)
    → HasJoints first publisher es before (x ∷ []) more
one_joint first publisher es before x more stood prefix back event e = record {
  later = more;
  since = [];
  is = sym (append-nil more);
  settled = λ image there.
      subst (λ (l : List Event). StandsAs publisher (es ++ commits l) image) (sym (nothing_before x prefix back event e))
      (subst (λ (l : List Recorded). StandsAs publisher l image) (sym (append-nil es)) (stood image there));
}

-- ---- quiet happenings

quiet_images : (first image : Files) (before more : List Happening) → AreQuiet more → MayLeave first (more ++ before) image → MayLeave first before image
quiet_images first image before [] quiet there = there
quiet_images first image before (attached name folder done ∷ more) quiet there = absurd quiet
quiet_images first image before (wrote file place bytes done after ∷ more) quiet there = absurd quiet
quiet_images first image before (cut_to file to done after ∷ more) quiet there = absurd quiet
quiet_images first image before (synced file done after ∷ more) quiet there = absurd quiet
quiet_images first image before (listed address folder listing ∷ more) quiet there = quiet_images first image before more quiet there
quiet_images first image before (fetched address name limit found ∷ more) quiet there = quiet_images first image before more quiet there
quiet_images first image before (sent address name bytes done ∷ more) quiet there = absurd quiet
quiet_images first image before (removed address name done ∷ more) quiet there = quiet_images first image before more quiet there
quiet_images first image before (handed_over folders noted ∷ more) quiet there = absurd quiet

quiet_puts : (more : List Happening) → AreQuiet more → puts_in more ≡ []
quiet_puts [] quiet = refl
quiet_puts (attached name folder done ∷ more) quiet = absurd quiet
quiet_puts (wrote file place bytes done after ∷ more) quiet = absurd quiet
quiet_puts (cut_to file to done after ∷ more) quiet = absurd quiet
quiet_puts (synced file done after ∷ more) quiet = absurd quiet
quiet_puts (listed address folder listing ∷ more) quiet = quiet_puts more quiet
quiet_puts (fetched address name limit found ∷ more) quiet = quiet_puts more quiet
quiet_puts (sent address name bytes done ∷ more) quiet = absurd quiet
quiet_puts (removed address name done ∷ more) quiet = quiet_puts more quiet
quiet_puts (handed_over folders noted ∷ more) quiet = absurd quiet

quiet_tail : (step : Happening) (more : List Happening) → AreQuiet (step ∷ more) → AreQuiet more
quiet_tail (attached name folder done) more quiet = absurd quiet
quiet_tail (wrote file place bytes done after) more quiet = absurd quiet
quiet_tail (cut_to file to done after) more quiet = absurd quiet
quiet_tail (synced file done after) more quiet = absurd quiet
quiet_tail (listed address folder listing) more quiet = quiet
quiet_tail (fetched address name limit found) more quiet = quiet
quiet_tail (sent address name bytes done) more quiet = absurd quiet
quiet_tail (removed address name done) more quiet = quiet
quiet_tail (handed_over folders noted) more quiet = absurd quiet

quiet_attaches : (before more : List Happening) → AreQuiet more → attaches_in (more ++ before) ≡ attaches_in before
quiet_attaches before [] quiet = refl
quiet_attaches before (attached name folder done ∷ more) quiet = absurd quiet
quiet_attaches before (wrote file place bytes done after ∷ more) quiet = absurd quiet
quiet_attaches before (cut_to file to done after ∷ more) quiet = absurd quiet
quiet_attaches before (synced file done after ∷ more) quiet = absurd quiet
quiet_attaches before (listed address folder listing ∷ more) quiet = quiet_attaches before more quiet
quiet_attaches before (fetched address name limit found ∷ more) quiet = quiet_attaches before more quiet
quiet_attaches before (sent address name bytes done ∷ more) quiet = absurd quiet
quiet_attaches before (removed address name done ∷ more) quiet = quiet_attaches before more quiet
quiet_attaches before (handed_over folders noted ∷ more) quiet = absurd quiet

quiet_calls : (more : List Happening) → AreQuiet more → AllByRecursion IsCall more
quiet_calls [] quiet = tt
quiet_calls (attached name folder done ∷ more) quiet = absurd quiet
quiet_calls (wrote file place bytes done after ∷ more) quiet = absurd quiet
quiet_calls (cut_to file to done after ∷ more) quiet = absurd quiet
quiet_calls (synced file done after ∷ more) quiet = absurd quiet
quiet_calls (listed address folder listing ∷ more) quiet = (tt, quiet_calls more quiet)
quiet_calls (fetched address name limit found ∷ more) quiet = (tt, quiet_calls more quiet)
quiet_calls (sent address name bytes done ∷ more) quiet = absurd quiet
quiet_calls (removed address name done ∷ more) quiet = (tt, quiet_calls more quiet)
quiet_calls (handed_over folders noted ∷ more) quiet = absurd quiet

-- ---- nothing has begun

module _ (first : Files) (publisher : Name) (es : List Recorded) (before : List Happening) (stood : (image : Files) → MayLeave first before image → StandsAs publisher es image) where
  stands_none : (image : Files) → MayLeave first before image → StandsAs publisher (es ++ commits []) image
  stands_none image there = subst (λ (l : List Recorded). StandsAs publisher l image) (sym (append-nil es)) (stood image there)

  begun_quiet : (more : List Happening) → AreQuiet more → HasBegun first publisher es before [] more
  begun_quiet more quiet =
      record {
        put = quiet_puts more quiet;
        images = λ image there. inl (stands_none image (quiet_images first image before more quiet there));
        settled = λ at image there. stands_none image (quiet_images first image before more quiet there);
      }

  on_none : (trace : List Event) → IsOnTrace first publisher es before trace []
  on_none trace = record { begun = []; left = trace; prefix = refl; has = begun_quiet [] tt }

  quiet_moments : (more : List Happening) → AreQuiet more → AtEach (IsOnTrace first publisher es before []) more
  quiet_moments [] quiet = on_none []
  quiet_moments (step ∷ more) quiet = (record { begun = []; left = []; prefix = refl; has = begun_quiet (step ∷ more) quiet }, quiet_moments more (quiet_tail step more quiet))

-- what every crash leaves before these, it leaves after each of them
quiet_rests : (holds : Files → Type 0) (first : Files) (before more : List Happening) → AreQuiet more → ((image : Files) → MayLeave first before image → holds image)
    → Throughout (λ moment. (image : Files) → MayLeave first moment image → holds image) before more
quiet_rests holds first before [] quiet stood = stood
quiet_rests holds first before (step ∷ more) quiet stood = (λ image there. stood image (quiet_images first image before (step ∷ more) quiet there), quiet_rests holds first before more (quiet_tail step more quiet) stood)

pub quiet : (before now : Seen) (publisher : Name) (es : List Recorded) (more : List Happening) → IsSettled (StandsAs publisher es) before → now.observable ≡ before.observable → now.first ≡ before.first → now.happened ≡ more ++ before.happened → AreQuiet more → Went before now publisher es []
unfolding Went
quiet before now publisher es more settled told same is still =
    record {
      observable = told;
      first = same;
      attached = ap attaches_in is ∙ quiet_attaches before.happened more still;
      more = more;
      is = is;
      calls = quiet_calls more still;
      moments = quiet_moments before.first publisher es before.happened settled more still;
      end = begun_quiet before.first publisher es before.happened settled more still;
      joints = λ prefix back event e. absurd (no_event prefix back event e);
      base = λ base stood. record { more = more; is = is; moments = quiet_rests (HasBase base) before.first before.happened more still stood };
    }

pub nothing : (seen : Seen) (publisher : Name) (es : List Recorded) → IsSettled (StandsAs publisher es) seen → Went seen seen publisher es []
nothing seen publisher es settled = quiet seen seen publisher es [] settled refl refl refl tt

-- the images of a later moment are those of an earlier one
at_now : (before now : Seen) (image : Files) (more : List Happening) → now.first ≡ before.first → now.happened ≡ more ++ before.happened → IsImage now image → MayLeave before.first (more ++ before.happened) image
at_now before now image more same is there =
    subst (λ (h : List Happening). MayLeave before.first h image) is (subst (λ (f : Files). MayLeave f now.happened image) same there)

pub quiet_before : (before now : Seen) (more : List Happening) (image : Files) → now.first ≡ before.first → now.happened ≡ more ++ before.happened → AreQuiet more → IsImage now image → IsImage before image
quiet_before before now more image same is still there = quiet_images before.first image before.happened more still (at_now before now image more same is there)

-- ---- one put

pub one_put : (before now : Seen) (publisher : Name) (es : List Recorded) (address name bytes : List ℕ) (done : Bool) → IsSettled (StandsAs publisher es) before → now.observable ≡ before.observable → now.first ≡ before.first
    → now.happened ≡ sent address name bytes done ∷ before.happened → Went before now publisher es (put address name bytes ∷ [])
unfolding Went
one_put before now publisher es address name bytes done settled told same is =
    record {
      observable = told;
      first = same;
      attached = ap attaches_in is;
      more = sent address name bytes done ∷ [];
      is = is;
      calls = (tt, tt);
      moments = (record { begun = put address name bytes ∷ []; left = []; prefix = refl; has = begun_put }, on_none before.first publisher es before.happened settled (put address name bytes ∷ []));
      end = begun_put;
      joints = one_joint before.first publisher es before.happened (put address name bytes) (sent address name bytes done ∷ []) settled;
      base = λ base stood. record { more = sent address name bytes done ∷ []; is = is; moments = (stood, stood) };
    }
  where
    stands : (image : Files) → MayLeave before.first before.happened image → StandsAs publisher (es ++ commits []) image
    stands image there = stands_none before.first publisher es before.happened settled image there

    begun_put : HasBegun before.first publisher es before.happened (put address name bytes ∷ []) (sent address name bytes done ∷ [])
    begun_put = record { put = refl; images = λ image there. inl (stands image there); settled = λ at image there. stands image there }

pub put_before : (before now : Seen) (address name bytes : List ℕ) (done : Bool) (image : Files) → now.first ≡ before.first → now.happened ≡ sent address name bytes done ∷ before.happened → IsImage now image → IsImage before image
put_before before now address name bytes done image same is there = at_now before now image (sent address name bytes done ∷ []) same is there

-- ---- what was put

pub puts_more : (before more : List Happening) → puts_in (more ++ before) ≡ puts_in before ++ puts_in more
puts_more before [] = sym (append-nil (puts_in before))
puts_more before (attached name folder done ∷ more) = puts_more before more
puts_more before (wrote file place bytes done after ∷ more) = puts_more before more
puts_more before (cut_to file to done after ∷ more) = puts_more before more
puts_more before (synced file done after ∷ more) = puts_more before more
puts_more before (listed address folder listing ∷ more) = puts_more before more
puts_more before (fetched address name limit found ∷ more) = puts_more before more
puts_more before (sent address name bytes done ∷ more) = ap (λ (l : List PutFile). l ++ (address, name, bytes) ∷ []) (puts_more before more) ∙ append_assoc (puts_in before) (puts_in more) ((address, name, bytes) ∷ [])
puts_more before (removed address name done ∷ more) = puts_more before more
puts_more before (handed_over folders noted ∷ more) = puts_more before more

-- they are those of what happened to the mail
pub puts_of_mail : (happened : List Happening) → puts_in (mail_in happened) ≡ puts_in happened
puts_of_mail [] = refl
puts_of_mail (attached name folder done ∷ before) = puts_of_mail before
puts_of_mail (wrote file place bytes done after ∷ before) = puts_of_mail before
puts_of_mail (cut_to file to done after ∷ before) = puts_of_mail before
puts_of_mail (synced file done after ∷ before) = puts_of_mail before
puts_of_mail (listed address folder listing ∷ before) = puts_of_mail before
puts_of_mail (fetched address name limit found ∷ before) = puts_of_mail before
puts_of_mail (sent address name bytes done ∷ before) = ap (λ (l : List PutFile). l ++ (address, name, bytes) ∷ []) (puts_of_mail before)
puts_of_mail (removed address name done ∷ before) = puts_of_mail before
puts_of_mail (handed_over folders noted ∷ before) = puts_of_mail before

-- where nothing happened to the mail in the end, nothing did by the step before, and the last step was no call of it
pub step_before : (step : Happening) (more : List Happening) → mail_in (step ∷ more) ≡ [] → (mail_in more ≡ []) × (IsBetween (step ∷ more) → ⊥)
step_before (attached name folder done) more none = (none, λ at. at)
step_before (wrote file place bytes done after) more none = (none, λ at. at)
step_before (cut_to file to done after) more none = (none, λ at. at)
step_before (synced file done after) more none = (none, λ at. at)
step_before (listed address folder listing) more none = absurd (cc none)
step_before (fetched address name limit found) more none = absurd (cc none)
step_before (sent address name bytes done) more none = absurd (cc none)
step_before (removed address name done) more none = absurd (cc none)
step_before (handed_over folders noted) more none = absurd (cc none)

pub none_put : (more : List Happening) → mail_in more ≡ [] → puts_in more ≡ []
none_put more none = sym (puts_of_mail more) ∙ ap puts_in none

pub mail_more : (before more : List Happening) → mail_in (more ++ before) ≡ mail_in more ++ mail_in before
mail_more before [] = refl
mail_more before (attached name folder done ∷ more) = mail_more before more
mail_more before (wrote file place bytes done after ∷ more) = mail_more before more
mail_more before (cut_to file to done after ∷ more) = mail_more before more
mail_more before (synced file done after ∷ more) = mail_more before more
mail_more before (listed address folder listing ∷ more) = ap (λ (l : List Happening). listed address folder listing ∷ l) (mail_more before more)
mail_more before (fetched address name limit found ∷ more) = ap (λ (l : List Happening). fetched address name limit found ∷ l) (mail_more before more)
mail_more before (sent address name bytes done ∷ more) = ap (λ (l : List Happening). sent address name bytes done ∷ l) (mail_more before more)
mail_more before (removed address name done ∷ more) = ap (λ (l : List Happening). removed address name done ∷ l) (mail_more before more)
mail_more before (handed_over folders noted ∷ more) = ap (λ (l : List Happening). handed_over folders noted ∷ l) (mail_more before more)

-- where nothing happened to the mail, all that happened are calls
pub none_calls : (more : List Happening) → mail_in more ≡ [] → AllByRecursion IsCall more
none_calls [] none = tt
none_calls (attached name folder done ∷ more) none = (tt, none_calls more none)
none_calls (wrote file place bytes done after ∷ more) none = (tt, none_calls more none)
none_calls (cut_to file to done after ∷ more) none = (tt, none_calls more none)
none_calls (synced file done after ∷ more) none = (tt, none_calls more none)
none_calls (listed address folder listing ∷ more) none = absurd (cc none)
none_calls (fetched address name limit found ∷ more) none = absurd (cc none)
none_calls (sent address name bytes done ∷ more) none = absurd (cc none)
none_calls (removed address name done ∷ more) none = absurd (cc none)
none_calls (handed_over folders noted ∷ more) none = absurd (cc none)

pub calls_more : (before more : List Happening) → AllByRecursion IsCall more → AllByRecursion IsCall before → AllByRecursion IsCall (more ++ before)
calls_more before [] one other = other
calls_more before (step ∷ more) one other = (one.0, calls_more before more one.1 other)

-- ---- one commit

module _ (first : Files) (publisher : Name) (es : List Recorded) (r : Recorded) (before : List Happening) (stood : (image : Files) → MayLeave first before image → StandsAs publisher es image) where
  abbrev either : List Happening → Type 0
  either moment = (image : Files) → MayLeave first moment image → StandsAs publisher es image ⊎ StandsAs publisher (es ++ r ∷ []) image

  may : (image : Files) → StandsAs publisher es image ⊎ StandsAs publisher (es ++ r ∷ []) image → MayStandFor publisher es (commit r ∷ []) image
  may image (inl lacks) = inr (record { others = []; last = r; is = refl; stands = subst (λ (l : List Recorded). StandsAs publisher l image) (sym (append-nil es)) lacks })
  may image (inr has) = inl has

  -- the commit has begun, and nothing was put
  begun_commit : (since : List Happening) → puts_in since ≡ [] → (IsBetween since → ⊥) → either (since ++ before) → HasBegun first publisher es before (commit r ∷ []) since
  begun_commit since none busy rests =
      record {
        put = none;
        images = λ image there. may image (rests image there);
        settled = λ at image there. absurd (busy at);
      }

  -- at each moment
  commit_moments : (more : List Happening) → mail_in more ≡ [] → Throughout either before more → AtEach (IsOnTrace first publisher es before (commit r ∷ [])) more
  commit_moments [] none rests = on_none first publisher es before stood (commit r ∷ [])
  commit_moments (step ∷ more) none rests =
      let s = step_before step more none in
      (record { begun = commit r ∷ []; left = []; prefix = refl; has = begun_commit (step ∷ more) (none_put (step ∷ more) none) s.1 rests.0 }, commit_moments more s.0 rests.1)

  -- in the end
  commit_end : (more : List Happening) → ¬ (more ≡ []) → mail_in more ≡ [] → Throughout either before more → HasBegun first publisher es before (commit r ∷ []) more
  commit_end [] some none rests = absurd (some refl)
  commit_end (step ∷ more) some none rests = begun_commit (step ∷ more) (none_put (step ∷ more) none) (step_before step more none).1 rests.0

pub one_commit : (before now : Seen) (publisher : Name) (es : List Recorded) (r : Recorded) → now.observable ≡ before.observable → now.first ≡ before.first → IsSettled (StandsAs publisher es) before
    → mail_in now.happened ≡ mail_in before.happened → attaches_in now.happened ≡ attaches_in before.happened → ¬ (now.happened ≡ before.happened)
    → RestsThroughout (λ image. StandsAs publisher es image ⊎ StandsAs publisher (es ++ r ∷ []) image) before now → KeepsBase before now → Went before now publisher es (commit r ∷ [])
unfolding Went
one_commit before now publisher es r told same settled silent alone some rests keeps =
    let none : mail_in rests.more ≡ [] = append_cancel_right (mail_in rests.more) [] (mail_in before.happened) (sym (mail_more before.happened rests.more) ∙ ap mail_in (sym rests.is) ∙ silent) in
    record {
      observable = told;
      first = same;
      attached = alone;
      more = rests.more;
      is = rests.is;
      calls = none_calls rests.more none;
      moments = commit_moments before.first publisher es r before.happened settled rests.more none rests.moments;
      end = commit_end before.first publisher es r before.happened settled rests.more (λ e. some (rests.is ∙ ap (λ (l : List Happening). l ++ before.happened) e)) none rests.moments;
      joints = one_joint before.first publisher es before.happened (commit r) rests.more settled;
      base = keeps;
    }

-- ---- what is told

at_one : (holds : List Happening → Type 0) (later earlier : List Happening) → AtEach holds (later ++ earlier) → holds earlier
at_one holds [] [] each = each
at_one holds [] (step ∷ earlier) each = each.0
at_one holds (step ∷ later) earlier each = at_one holds later earlier each.1

pub told_puts : (before now : Seen) (publisher : Name) (es : List Recorded) (trace : List Event) → Went before now publisher es trace → puts_in now.happened ≡ puts_in before.happened ++ puts trace
unfolding Went
told_puts before now publisher es trace went =
    ap puts_in went.is ∙ puts_more before.happened went.more ∙ ap (λ (l : List PutFile). puts_in before.happened ++ l) went.end.put

pub told_images : (before now : Seen) (publisher : Name) (es : List Recorded) (trace : List Event) → Went before now publisher es trace → (image : Files) → IsImage now image → MayStandFor publisher es trace image
unfolding Went
told_images before now publisher es trace went image there = went.end.images image (at_now before now image went.more went.first went.is there)

pub told_moments : (before now : Seen) (publisher : Name) (es : List Recorded) (trace : List Event) (later earlier : List Happening) → Went before now publisher es trace
    → now.happened ≡ later ++ (earlier ++ before.happened) → IsOnTrace before.first publisher es before.happened trace earlier
unfolding Went
told_moments before now publisher es trace later earlier went is =
    let whole : went.more ++ before.happened ≡ (later ++ earlier) ++ before.happened = sym went.is ∙ is ∙ sym (append_assoc later earlier before.happened) in
    let same : went.more ≡ later ++ earlier = append_cancel_right went.more (later ++ earlier) before.happened whole in
    at_one (IsOnTrace before.first publisher es before.happened trace) later earlier (subst (λ (l : List Happening). AtEach (IsOnTrace before.first publisher es before.happened trace) l) same went.moments)

pub told_same : (before now : Seen) (publisher : Name) (es : List Recorded) (trace : List Event) → Went before now publisher es trace → (now.observable ≡ before.observable) × (now.first ≡ before.first)
unfolding Went
told_same before now publisher es trace went = (went.observable, went.first)

pub told_attaches : (before now : Seen) (publisher : Name) (es : List Recorded) (trace : List Event) → Went before now publisher es trace → attaches_in now.happened ≡ attaches_in before.happened
unfolding Went
told_attaches before now publisher es trace went = went.attached

pub told_joints : (before now : Seen) (publisher : Name) (es : List Recorded) (trace : List Event) → Went before now publisher es trace → (prefix back : List Event) (event : Event) → trace ≡ prefix ++ event ∷ back
    → (more : List Happening) × (now.happened ≡ more ++ before.happened) × Joint before.first publisher es before.happened prefix more
unfolding Went
told_joints before now publisher es trace went prefix back event e = (went.more, went.is, went.joints prefix back event e)

pub told_calls : (before now : Seen) (publisher : Name) (es : List Recorded) (trace : List Event) → Went before now publisher es trace
    → (more : List Happening) × (now.happened ≡ more ++ before.happened) × AllByRecursion IsCall more
unfolding Went
told_calls before now publisher es trace went = (went.more, went.is, went.calls)

pub told_base : (before now : Seen) (publisher : Name) (es : List Recorded) (trace : List Event) → Went before now publisher es trace → KeepsBase before now
unfolding Went
told_base before now publisher es trace went = went.base

pub ruleset telling = (told_puts, told_images, told_moments, told_same, told_attaches, told_joints, told_calls, told_base)
