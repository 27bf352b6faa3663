-- Entries that a survey does not list for a user are passed over, and what is listed is told by the catalog of now.
use Rattle.std.proofs.Common.{◌≡◌, ◌⊎◌, inl, inr, ℕ, ◌+◌, ◌≤◌, ◌<◌, Bool, true, false, List, [], ◌∷◌, ◌++◌, Option, Some, None, refl, sym, ap, subst, ◌∙◌, arith, append_assoc, ltb-true}
use Rattle.std.specs.Prelude.{nat_lt}
use Rattle.std.specs.List.{Contains}
use Rattle.std.proofs.lemmas.List.{append-nil}
use Rattle.sr_ast.specs.declared.stmt.Stmt.{Stmt}
use Rattle.sr_base.specs.Values.{offset_from}
use Rattle.sr_book.specs.Entries.{Name}
use Rattle.sr_database_history.specs.Fitting.{Stored}
use Rattle.sr_database_history.specs.Folds.{end_of, state_of}
use Rattle.sr_database_history.specs.Recorded.{Recorded, entry_of}
use Rattle.sr_logform.specs.declared.op.Op.{Op}
use Rattle.sr_logform.specs.declared.op.Transaction.{Transaction}
use Rattle.sr_scan.specs.Given.{gives}
use Rattle.sr_scan.specs.Inner.Images.{told}
use Rattle.sr_scan.specs.Inner.Meanings.{texts_of, AreMeant}
use Rattle.sr_scan.specs.Inner.Scanners.{transaction_of}
use Rattle.sr_survey.proofs.Jumping.{jumped, told_named, told_now}
use Rattle.sr_survey.proofs.Splits.{past_end, end_before, entry_ends_before}
use Rattle.sr_survey.specs.Inner.Following.{since_of}
use Rattle.sr_survey.specs.Inner.Surveyed.{HasSurveyed, IsBefore, IsHis, IsListed, IsNext, IsNextShown, IsPlace, IsShown}
use Rattle.sr_survey.specs.declared.survey.Survey.{Survey}
use Rattle.sr_survey_places.specs.Inner.Listed.{under}
use Rattle.sr_survey_places.specs.declared.key.Key.{Key}
use Rattle.sr_survey_places.specs.declared.key.Key.TheVariants as keyed
use Rattle.sr_survey_places.specs.declared.place.Place.{Place}
use Rattle.sr_send.specs.Inner.Places.{HasReached, IsToldAt}
use Rattle.sr_send.specs.Inner.Steps.{newer, IsBehind}
use Rattle.sr_send.specs.Inner.Stops.{IsPrefixOf}
use Rattle.sr_send.specs.Inner.Surveys.{CanTell, IsShownNow}
use Rattle.sr_send.specs.Unsent.{unsent}
use Rattle.sr_send.proofs.Histories.{none_unsent, unsent_more, unsent_prefix}
use Rattle.sr_send.proofs.Pushes.{none_newer}

-- ---- two splits of one list

-- an element stands behind the first part of the other split, or in it
pub split_two : {A : Type 0} (done left first rest : List A) (x : A) → done ++ left ≡ first ++ x ∷ rest → ((between : List A) × (first ≡ done ++ between)) ⊎ ((more : List A) × (done ≡ first ++ x ∷ more))
split_two [] left first rest x e = inl (first, refl)
split_two {A} (y ∷ done) left [] rest x e = let head : y ≡ x = cc in inr (done, ap (λ (z : A). z ∷ done) head)
split_two {A} (y ∷ done) left (z ∷ first) rest x e = go (split_two done left first rest x tail) where
  head : y ≡ z
  head = cc

  tail : done ++ left ≡ first ++ x ∷ rest
  tail = cc

  go : ((between : List A) × (first ≡ done ++ between)) ⊎ ((more : List A) × (done ≡ first ++ x ∷ more)) → ((between : List A) × (z ∷ first ≡ y ∷ (done ++ between))) ⊎ ((more : List A) × (y ∷ done ≡ z ∷ (first ++ x ∷ more)))
  go (inl h) = inl (h.0, (let whole : z ∷ first ≡ y ∷ (done ++ h.0) = cc in whole))
  go (inr h) = inr (h.0, (let whole : y ∷ done ≡ z ∷ (first ++ x ∷ h.0) = cc in whole))

-- a place that ends behind entries begins no sooner than they end
pub starts_behind : (es before behind : List Recorded) (place : Place) → es ≡ before ++ behind → (there : IsPlace es place) → end_of before < place.end → end_of before ≤ place.start
starts_behind es before behind place parts there late = go (split_two before behind there.first there.rest there.entry (sym parts ∙ there.parts))
  where
    starts : place.start ≡ end_of there.first
    starts = ap (λ (p : Place). p.start) there.is

    ends : place.end ≡ end_of (there.first ++ there.entry ∷ [])
    ends = ap (λ (p : Place). p.end) there.is

    go : ((between : List Recorded) × (there.first ≡ before ++ between)) ⊎ ((more : List Recorded) × (before ≡ there.first ++ there.entry ∷ more)) → end_of before ≤ place.start
    go (inl h) =
        let further : end_of before ≤ end_of there.first = subst (λ (rs : List Recorded). end_of before ≤ end_of rs) (sym h.1) (end_before before h.0) in
        omega (arith, starts, further)
    go (inr h) = let early : end_of (there.first ++ there.entry ∷ []) ≤ end_of before = entry_ends_before before there.first h.0 there.entry h.1 in absurd (omega (arith, ends, late, early))

-- ---- what is passed over

module _ (publisher user : Name) (es : List Recorded) (s : Survey) (sent : ℕ) (has : HasSurveyed publisher es s) where
  -- an entry that ends before the next place, or no later than what was sent
  quiet_one : (done rest : List Recorded) (r : Recorded) (at : ℕ) (next : Option Place) → es ≡ done ++ r ∷ rest → s.begin ≤ end_of done → IsBehind sent (end_of done) at → IsNext s user at next
      → IsBefore (end_of (done ++ r ∷ [])) next → unsent publisher (done ++ r ∷ []) user sent ≡ unsent publisher done user sent
  quiet_one done rest r at next e begun behind is before =
      unsent_more publisher user done r sent (offset_from end) refl ∙ ap (λ (ts : List Transaction). unsent publisher done user sent ++ ts) (none (nat_lt sent end) refl) ∙ append-nil (unsent publisher done user sent) where
        end : ℕ
        end = end_of (done ++ r ∷ [])

        given : List Op
        given = gives (state_of publisher done) r user

        none : (b : Bool) → nat_lt sent end ≡ b → newer sent (transaction_of (offset_from end) given) ≡ []
        none false past = none_newer sent (offset_from end) given past
        none true past =
            let late : at < end = behind end (ltb-true sent end past) (past_end done r) in
            ap (λ (ops : List Op). newer sent (transaction_of (offset_from end) ops)) (jumped publisher user es done rest r s at next has is e begun late before)

  -- entries that do
  pub quiet : (done between rest : List Recorded) (at : ℕ) (next : Option Place) → es ≡ (done ++ between) ++ rest → s.begin ≤ end_of done → IsBehind sent (end_of done) at → IsNext s user at next
      → ((n : ℕ) → n ≤ end_of (done ++ between) → IsBefore n next) → unsent publisher (done ++ between) user sent ≡ unsent publisher done user sent
  quiet done [] rest at next e begun behind is ahead = ap (λ (rs : List Recorded). unsent publisher rs user sent) (append-nil done)
  quiet done (r ∷ between) rest at next e begun behind is ahead =
      let joined : (done ++ r ∷ []) ++ between ≡ done ++ r ∷ between = append_assoc done (r ∷ []) between in
      let past : end_of done < end_of (done ++ r ∷ []) = past_end done r in
      let no_further : end_of (done ++ r ∷ []) ≤ end_of (done ++ r ∷ between) = subst (λ (rs : List Recorded). end_of (done ++ r ∷ []) ≤ end_of rs) joined (end_before (done ++ r ∷ []) between) in
      ap (λ (rs : List Recorded). unsent publisher rs user sent) (sym joined)
      ∙ quiet (done ++ r ∷ []) between rest at next (e ∙ ap (λ (rs : List Recorded). rs ++ rest) (sym joined)) (omega arith) (λ n late further. behind n late (omega arith)) is
      (λ n early. ahead n (subst (λ (rs : List Recorded). n ≤ end_of rs) joined early))
      ∙ quiet_one done (between ++ rest) r at next (e ∙ append_assoc done (r ∷ between) rest) begun behind is (ahead (end_of (done ++ r ∷ [])) no_further)

-- ---- what is told

-- no place of a user past what he was sent that hangs on the catalog begins before that shows him what it showed him then
shown_there : (publisher user : Name) (es : List Recorded) (s : Survey) (sent : ℕ) (place : Place) → HasSurveyed publisher es s → CanTell s user sent → IsShown s user place → sent < place.end → (there : IsPlace es place)
    → since_of s user ≤ end_of there.first
shown_there publisher user es s sent place has can listed late there = go can.found can.next can.shown
  where
    ends : place.end ≡ end_of (there.first ++ there.entry ∷ [])
    ends = ap (λ (p : Place). p.end) there.is

    go : (o : Option Place) → IsNextShown s user sent o → IsShownNow s user o → since_of s user ≤ end_of there.first
    go None next shown = let early : place.end ≤ sent = next place listed in absurd (omega arith)
    go (Some first) next shown = sooner (split_two before.first (before.entry ∷ before.rest) there.first there.rest there.entry (sym before.parts ∙ there.parts))
      where
        before : IsPlace es first
        before = has.places next.0.key first next.0.there

        no_later : first.end ≤ place.end
        no_later = next.2 place listed late

        starts : first.start ≡ end_of before.first
        starts = ap (λ (p : Place). p.start) before.is

        first_ends : first.end ≡ end_of (before.first ++ before.entry ∷ [])
        first_ends = ap (λ (p : Place). p.end) before.is

        shows : since_of s user ≤ first.start
        shows = shown

        sooner : ((between : List Recorded) × (there.first ≡ before.first ++ between)) ⊎ ((more : List Recorded) × (before.first ≡ there.first ++ there.entry ∷ more)) → since_of s user ≤ end_of there.first
        sooner (inl h) =
            let further : end_of before.first ≤ end_of there.first = subst (λ (rs : List Recorded). end_of before.first ≤ end_of rs) (sym h.1) (end_before before.first h.0) in
            omega (arith, starts, shows, further)
        sooner (inr h) =
            let early : end_of (there.first ++ there.entry ∷ []) ≤ end_of before.first = entry_ends_before before.first there.first h.0 there.entry h.1 in
            let past : end_of before.first < end_of (before.first ++ before.entry ∷ []) = past_end before.first before.entry in
            absurd (omega (arith, ends, no_later, first_ends, early, past))

-- a place that is listed for a user is shown to him, or stands under his key of statements that are passed on
shown_or_text : (s : Survey) (user : Name) (place : Place) → IsListed s user place → IsShown s user place ⊎ Contains (under s.places.lists (keyed.Text user)) place
shown_or_text s user place listed = go listed.his
  where
    go : IsHis s user listed.key → IsShown s user place ⊎ Contains (under s.places.lists (keyed.Text user)) place
    go (inl e) = inl (record { key = listed.key; his = inl e; there = listed.there; other = listed.other })
    go (inr (inl e)) = inr (subst (λ (k : Key). Contains (under s.places.lists k) place) e listed.there)
    go (inr (inr (inl e))) = inl (record { key = listed.key; his = inr (inl e); there = listed.there; other = listed.other })
    go (inr (inr (inr h))) = inl (record { key = listed.key; his = inr (inr h); there = listed.there; other = listed.other })

-- what its entry gives him is told by the catalog of now
told_there : (publisher user : Name) (es : List Recorded) (s : Survey) (sent : ℕ) (place : Place) (meant : List (Option Stmt)) → Stored publisher es → HasSurveyed publisher es s → CanTell s user sent → IsListed s user place → sent < place.end
    → (there : IsPlace es place) → s.begin ≤ end_of there.first → AreMeant (texts_of (entry_of there.entry)) meant → told s.catalog (entry_of there.entry) meant user ≡ gives (state_of publisher there.first) there.entry user
told_there publisher user es s sent place meant stored has can listed late there begun are = go (shown_or_text s user place listed)
  where
    go : IsShown s user place ⊎ Contains (under s.places.lists (keyed.Text user)) place → told s.catalog (entry_of there.entry) meant user ≡ gives (state_of publisher there.first) there.entry user
    go (inl shown) = told_now publisher user es there.first there.rest there.entry s meant stored has there.parts begun (shown_there publisher user es s sent place has can shown late there) are
    go (inr text) =
        told_named publisher user es there.first there.rest there.entry s.catalog meant stored there.parts
        (has.texts user there.first there.rest there.entry there.parts (subst (λ (p : Place). Contains (under s.places.lists (keyed.Text user)) p) there.is text)) are

-- a place behind the offset that was reached stands behind the entries that were
pub placed_behind : (publisher user : Name) (es : List Recorded) (begin sent at : ℕ) (pushed : List Transaction) (place : Place) → (reached : HasReached publisher es user begin sent at pushed) → at < place.end → (there : IsPlace es place)
    → (between : List Recorded) × (there.first ≡ reached.done ++ between)
placed_behind publisher user es begin sent at pushed place reached late there = go (split_two reached.done reached.left there.first there.rest there.entry (sym reached.parts ∙ there.parts))
  where
    ends : place.end ≡ end_of (there.first ++ there.entry ∷ [])
    ends = ap (λ (p : Place). p.end) there.is

    before : end_of reached.done ≤ at
    before = reached.before

    go : ((between : List Recorded) × (there.first ≡ reached.done ++ between)) ⊎ ((more : List Recorded) × (reached.done ≡ there.first ++ there.entry ∷ more)) → (between : List Recorded) × (there.first ≡ reached.done ++ between)
    go (inl h) = h
    go (inr h) = let early : end_of (there.first ++ there.entry ∷ []) ≤ end_of reached.done = entry_ends_before reached.done there.first h.0 there.entry h.1 in absurd (omega (arith, ends, late, before, early))

module _ (publisher user : Name) (es : List Recorded) (s : Survey) (sent : ℕ) (stored : Stored publisher es) (has : HasSurveyed publisher es s) (can : CanTell s user sent) where
  -- the next place was told: all up to its end was
  pub reached_next : (at : ℕ) (pushed : List Transaction) (place : Place) (found : Option Transaction) → HasReached publisher es user s.begin sent at pushed → sent ≤ at → IsNext s user at (Some place) → IsToldAt es s user place found
      → HasReached publisher es user s.begin sent place.end (pushed ++ newer sent found)
  reached_next at pushed place found reached past next what = record {
    done = there.first ++ r ∷ [];
    left = there.rest;
    parts = there.parts ∙ sym (append_assoc there.first (r ∷ []) there.rest);
    begun = let further : end_of there.first < end_of (there.first ++ r ∷ []) = past_end there.first r in omega (arith, begun, further);
    before = omega (arith, ends);
    behind = λ n late further. subst (λ (m : ℕ). m < n) (sym ends) further;
    pushed_are = sym (unsent_more publisher user there.first r sent (offset_from place.end) ends ∙ ap (λ (ts : List Transaction). ts ++ newer sent (transaction_of (offset_from place.end) given)) before_it
        ∙ ap (λ (f : Option Transaction). pushed ++ newer sent f) (sym found_is));
  } where
    there : IsPlace es place
    there = what.there

    r : Recorded
    r = there.entry

    late : at < place.end
    late = next.1

    behind_it : (between : List Recorded) × (there.first ≡ reached.done ++ between)
    behind_it = placed_behind publisher user es s.begin sent at pushed place reached late there

    ends : place.end ≡ end_of (there.first ++ r ∷ [])
    ends = ap (λ (p : Place). p.end) there.is

    begun : s.begin ≤ end_of there.first
    begun =
        let was : s.begin ≤ end_of reached.done = reached.begun in
        let further : end_of reached.done ≤ end_of there.first = subst (λ (rs : List Recorded). end_of reached.done ≤ end_of rs) (sym behind_it.1) (end_before reached.done behind_it.0) in
        omega (arith, was, further)

    given : List Op
    given = gives (state_of publisher there.first) r user

    found_is : found ≡ transaction_of (offset_from place.end) given
    found_is =
        what.by.gives
        ∙ ap (λ (ops : List Op). transaction_of (offset_from place.end) ops)
        (told_there publisher user es s sent place what.by.meant stored has can next.0 (omega (arith, past, late)) there begun what.by.are)

    past_there : end_of there.first < place.end
    past_there = let further : end_of there.first < end_of (there.first ++ r ∷ []) = past_end there.first r in omega (arith, further, ends)

    before_it : unsent publisher there.first user sent ≡ pushed
    before_it =
        ap (λ (rs : List Recorded). unsent publisher rs user sent) behind_it.1
        ∙ quiet publisher user es s sent has reached.done behind_it.0 (r ∷ there.rest) at (Some place) (there.parts ∙ ap (λ (rs : List Recorded). rs ++ r ∷ there.rest) behind_it.1) reached.begun reached.behind next
        (λ n early. let no_later : n ≤ end_of there.first = subst (λ (rs : List Recorded). n ≤ end_of rs) (sym behind_it.1) early in omega (arith, no_later, past_there))
        ∙ sym reached.pushed_are

-- there is no further place: all was told
pub reached_all : (publisher user : Name) (es : List Recorded) (s : Survey) (sent at : ℕ) (pushed : List Transaction) → HasSurveyed publisher es s → (reached : HasReached publisher es user s.begin sent at pushed) → IsNext s user at None
    → pushed ≡ unsent publisher es user sent
reached_all publisher user es s sent at pushed has reached next =
    reached.pushed_are
    ∙ sym (quiet publisher user es s sent has reached.done reached.left [] at None (reached.parts ∙ sym (append-nil (reached.done ++ reached.left))) reached.begun reached.behind next (λ n early. tt))
    ∙ ap (λ (rs : List Recorded). unsent publisher rs user sent) (sym reached.parts)

-- what was told is the first of what is unsent
pub reached_prefix : (publisher user : Name) (es : List Recorded) (begin sent at : ℕ) (pushed : List Transaction) → (reached : HasReached publisher es user begin sent at pushed) → IsPrefixOf pushed (unsent publisher es user sent)
reached_prefix publisher user es begin sent at pushed reached =
    let prefix = unsent_prefix publisher user reached.done reached.left sent in
    record {
      rest = prefix.rest;
      parts = ap (λ (rs : List Recorded). unsent publisher rs user sent) reached.parts ∙ prefix.parts ∙ ap (λ (ts : List Transaction). ts ++ prefix.rest) (sym reached.pushed_are);
    }

-- nothing was told yet
pub reached_none : (publisher user : Name) (es before behind : List Recorded) (begin sent : ℕ) → es ≡ before ++ behind → begin ≡ end_of before → begin ≤ sent → HasReached publisher es user begin sent sent []
reached_none publisher user es before behind begin sent parts begin_is begun =
    let early : end_of before ≤ sent = omega (arith, begin_is, begun) in
    record {
      done = before;
      left = behind;
      parts = parts;
      begun = omega (arith, begin_is);
      before = early;
      behind = λ n late further. late;
      pushed_are = sym (none_unsent publisher user before sent early);
    }
