-- The need of a user among the places that a survey lists for him.
use Rattle.std.proofs.Common.{◌≡◌, ◌⊎◌, inl, inr, ℕ, ◌+◌, ◌≤◌, ◌<◌, Bool, true, false, cond, List, [], ◌∷◌, ◌++◌, Option, Some, None, refl, sym, ap, ap₂, subst, ◌∙◌, arith, append_assoc, lt-ltb, ltb-true, ltb-false}
use Rattle.std.specs.Prelude.{nat_lt, ◌&&◌, min}
use Rattle.std.proofs.lemmas.List.{append-nil}
use Rattle.sr_base.specs.Values.{offset_from}
use Rattle.sr_book.specs.Entries.{Name}
use Rattle.sr_database_history.proofs.Joined.{state_from-more, end_from-more}
use Rattle.sr_database_history.specs.Fitting.{Stored}
use Rattle.sr_database_history.specs.Folds.{State, fresh, next, size, state_of, end_of}
use Rattle.sr_database_history.specs.Recorded.{Recorded, entry_of}
use Rattle.sr_logform.specs.declared.op.Op.{Op}
use Rattle.sr_logform.specs.declared.op.Transaction.{Transaction}
use Rattle.sr_scan.specs.Given.{gives}
use Rattle.sr_scan.specs.Inner.Images.{told}
use Rattle.sr_scan.specs.Inner.Scanners.{transaction_of}
use Rattle.sr_send.proofs.Histories.{unsent_more, unsent_prefix}
use Rattle.sr_send.proofs.Jumps.{placed_behind, quiet, reached_all, reached_next, split_two}
use Rattle.sr_send.proofs.Starts.{none_rest}
use Rattle.sr_send.specs.Inner.Places.{HasReached, IsToldAt}
use Rattle.sr_send.specs.Inner.Steps.{newer}
use Rattle.sr_send.specs.Inner.Stops.{IsPrefixOf}
use Rattle.sr_send.specs.Inner.Surveys.{CanTell}
use Rattle.sr_send.specs.Unsent.{unsent}
use Rattle.sr_send_needs.proofs.Searches.{le-before}
use Rattle.sr_send_needs.specs.Inner.Listing.{IsAnyAt, IsNextWithin, place_within}
use Rattle.sr_send_needs.specs.Needs.{any_ops, end_before}
use Rattle.sr_survey.proofs.Splits.{entry_ends_before, past_end}
use Rattle.sr_survey.specs.Inner.Surveyed.{HasSurveyed, IsNext, IsPlace}
use Rattle.sr_survey.specs.declared.survey.Survey.{Survey}
use Rattle.sr_survey_places.specs.declared.place.Place.{Place}

-- ---- what gives nothing past an offset

-- of two lists that are none joined each is
first_none : {A : Type 0} (xs ys : List A) → xs ++ ys ≡ [] → xs ≡ []
first_none [] ys none = refl
first_none (x ∷ xs) ys none = absurd cc

prefix_none : (pushed waiting : List Transaction) → IsPrefixOf pushed waiting → waiting ≡ [] → pushed ≡ []
prefix_none pushed waiting prefix none = first_none pushed prefix.rest (sym prefix.parts ∙ none)

-- ops give what is past the offset exactly where there are some, and their end is
none_past : (sent end : ℕ) (ops : List Op) → newer sent (transaction_of (offset_from end) ops) ≡ [] → (any_ops ops && nat_lt sent end) ≡ false
none_past sent end [] none = refl
none_past sent end (op ∷ ops) none = go (nat_lt sent end) none where
  go : (b : Bool) → cond {A = List Transaction} b (record { at = offset_from end; ops = op ∷ ops } ∷ []) [] ≡ [] → b ≡ false
  go true none = absurd cc
  go false none = refl

some_past : (sent end : ℕ) (ops : List Op) (t : Transaction) → newer sent (transaction_of (offset_from end) ops) ≡ t ∷ [] → (any_ops ops && nat_lt sent end) ≡ true
some_past sent end [] t some = absurd cc
some_past sent end (op ∷ ops) t some = go (nat_lt sent end) some where
  go : (b : Bool) → cond {A = List Transaction} b (record { at = offset_from end; ops = op ∷ ops } ∷ []) [] ≡ t ∷ [] → b ≡ true
  go true some = refl
  go false some = absurd cc

module _ (publisher user : Name) (sent : ℕ) where
  -- an entry, of which this is the test
  one_is : (done rest : List Recorded) (r : Recorded) (b : Bool) → (any_ops (gives (state_of publisher done) r user) && nat_lt sent (end_of (done ++ r ∷ []))) ≡ b
      → end_before sent (state_of publisher done) (end_of done) (r ∷ rest) user ≡ cond b (end_of done) (end_before sent (state_of publisher (done ++ r ∷ [])) (end_of (done ++ r ∷ [])) rest user)
  one_is done rest r b test =
      let s = state_of publisher done in
      let given = gives s r user in
      let state : next s r ≡ state_of publisher (done ++ r ∷ []) = sym (state_from-more (fresh publisher) done r) in
      let end : end_of done + (size r + 5) ≡ end_of (done ++ r ∷ []) = sym (end_from-more 0 done r) in
      ap₂ (λ (x : State) (m : ℕ). cond (any_ops given && nat_lt sent m) (end_of done) (end_before sent x m rest user)) state end
      ∙ ap (λ (t : Bool). cond t (end_of done) (end_before sent (state_of publisher (done ++ r ∷ [])) (end_of (done ++ r ∷ [])) rest user)) test

  -- what it gives
  one_given : (done : List Recorded) (r : Recorded) → unsent publisher done user sent ≡ []
      → unsent publisher (done ++ r ∷ []) user sent ≡ newer sent (transaction_of (offset_from (end_of (done ++ r ∷ []))) (gives (state_of publisher done) r user))
  one_given done r none =
      unsent_more publisher user done r sent (offset_from (end_of (done ++ r ∷ []))) refl
      ∙ ap (λ (ts : List Transaction). ts ++ newer sent (transaction_of (offset_from (end_of (done ++ r ∷ []))) (gives (state_of publisher done) r user))) none

  -- entries that give nothing are passed over
  pub none_over : (done more left : List Recorded) → unsent publisher (done ++ more) user sent ≡ []
      → end_before sent (state_of publisher done) (end_of done) (more ++ left) user ≡ end_before sent (state_of publisher (done ++ more)) (end_of (done ++ more)) left user
  none_over done [] left none = ap (λ (rs : List Recorded). end_before sent (state_of publisher rs) (end_of rs) left user) (sym (append-nil done))
  none_over done (r ∷ more) left none =
      let joined : (done ++ r ∷ []) ++ more ≡ done ++ r ∷ more = append_assoc done (r ∷ []) more in
      let later : unsent publisher ((done ++ r ∷ []) ++ more) user sent ≡ [] = ap (λ (rs : List Recorded). unsent publisher rs user sent) joined ∙ none in
      let here : unsent publisher (done ++ r ∷ []) user sent ≡ [] = prefix_none _ _ (unsent_prefix publisher user (done ++ r ∷ []) more sent) later in
      let before : unsent publisher done user sent ≡ [] = prefix_none _ _ (unsent_prefix publisher user done (r ∷ []) sent) here in
      one_is done (more ++ left) r false (none_past sent (end_of (done ++ r ∷ [])) (gives (state_of publisher done) r user) (sym (one_given done r before) ∙ here))
      ∙ none_over (done ++ r ∷ []) more left later
      ∙ ap (λ (rs : List Recorded). end_before sent (state_of publisher rs) (end_of rs) left user) joined

-- ---- the places

-- the place that was found begins before the limit
pub within_some : (s : Survey) (user : Name) (at limit : ℕ) (place : Place) → IsNextWithin s user at limit (Some place) → IsNext s user at (Some place) × (place.start < limit)
within_some s user at limit place n = go n.first n.next n.found_is where
  test : (p : Place) (b : Bool) → nat_lt p.start limit ≡ b → Some place ≡ cond b (Some p) None → (place ≡ p) × (p.start < limit)
  test p true lt is = ((let same : place ≡ p = cc in same), ltb-true p.start limit lt)
  test p false lt is = absurd cc

  go : (o : Option Place) → IsNext s user at o → Some place ≡ place_within limit o → IsNext s user at (Some place) × (place.start < limit)
  go None next is = absurd cc
  go (Some p) next is =
      let t = test p (nat_lt p.start limit) refl is in
      (subst (λ (q : Place). IsNext s user at (Some q)) (sym t.0) next, subst (λ (q : Place). q.start < limit) (sym t.0) t.1)

module _ (publisher user : Name) (es : List Recorded) (s : Survey) (sent : ℕ) (has : HasSurveyed publisher es s) where
  -- nothing is given before the next place
  none_before : (at : ℕ) (place : Place) → HasReached publisher es user s.begin sent at [] → IsNext s user at (Some place) → (there : IsPlace es place) → unsent publisher there.first user sent ≡ []
  none_before at place reached next there =
      let behind_it = placed_behind publisher user es s.begin sent at [] place reached next.1 there in
      let further : end_of there.first < end_of (there.first ++ there.entry ∷ []) = past_end there.first there.entry in
      let ends : place.end ≡ end_of (there.first ++ there.entry ∷ []) = ap (λ (p : Place). p.end) there.is in
      ap (λ (rs : List Recorded). unsent publisher rs user sent) behind_it.1
      ∙ quiet publisher user es s sent has reached.done behind_it.0 (there.entry ∷ there.rest) at (Some place) (there.parts ∙ ap (λ (rs : List Recorded). rs ++ there.entry ∷ there.rest) behind_it.1) reached.begun reached.behind next
      (λ n early. let no_later : n ≤ end_of there.first = subst (λ (rs : List Recorded). n ≤ end_of rs) (sym behind_it.1) early in omega (arith, no_later, further, ends))
      ∙ sym reached.pushed_are

  -- so it is the need that the entry there goes on with
  need_there : (at : ℕ) (place : Place) → HasReached publisher es user s.begin sent at [] → IsNext s user at (Some place) → (there : IsPlace es place)
      → end_before sent (fresh publisher) 0 es user ≡ end_before sent (state_of publisher there.first) (end_of there.first) (there.entry ∷ there.rest) user
  need_there at place reached next there =
      ap (λ (rs : List Recorded). end_before sent (fresh publisher) 0 rs user) there.parts
      ∙ none_over publisher user sent [] there.first (there.entry ∷ there.rest) (none_before at place reached next there)

  -- none is left that begins before a limit
  pub none_within : (at limit : ℕ) → HasReached publisher es user s.begin sent at [] → IsNextWithin s user at limit None → limit ≤ end_of es → limit ≡ min limit (end_before sent (fresh publisher) 0 es user)
  none_within at limit reached n within = go n.first n.next n.found_is where
    need : ℕ
    need = end_before sent (fresh publisher) 0 es user

    not_before : (p : Place) (b : Bool) → nat_lt p.start limit ≡ b → None ≡ cond b (Some p) None → limit ≤ p.start
    not_before p true lt is = absurd cc
    not_before p false lt is = ltb-false p.start limit lt

    go : (o : Option Place) → IsNext s user at o → None ≡ place_within limit o → limit ≡ min limit need
    go None next is =
        let all : [] ≡ unsent publisher es user sent = reached_all publisher user es s sent at [] has reached next in
        let end : need ≡ end_of es = ap (λ (rs : List Recorded). end_before sent (fresh publisher) 0 rs user) (sym (append-nil es)) ∙ none_over publisher user sent [] es [] (sym all) in
        omega (arith, within, end)
    go (Some p) next is =
        let there : IsPlace es p = has.places next.0.key p next.0.there in
        let starts : p.start ≡ end_of there.first = ap (λ (q : Place). q.start) there.is in
        let later : end_of there.first ≤ end_before sent (state_of publisher there.first) (end_of there.first) (there.entry ∷ there.rest) user =
        le-before sent user (state_of publisher there.first) (end_of there.first) (there.entry ∷ there.rest) in
        let same : need ≡ end_before sent (state_of publisher there.first) (end_of there.first) (there.entry ∷ there.rest) user = need_there at p reached next there in
        let past : limit ≤ p.start = not_before p (nat_lt p.start limit) refl is in
        omega (arith, starts, later, same, past)

  module _ (stored : Stored publisher es) (can : CanTell s user sent) (at : ℕ) (place : Place) (any : Bool) (reached : HasReached publisher es user s.begin sent at []) (past : sent ≤ at) (next_is : IsNext s user at (Some place)) (a : IsAnyAt es s user place any) where
    abbrev first : List Recorded
    first = a.there.first

    abbrev r : Recorded
    r = a.there.entry

    abbrev ops : List Op
    ops = told s.catalog (entry_of a.there.entry) a.by.meant user

    abbrev found : Option Transaction
    found = transaction_of (offset_from place.end) ops

    told_there : IsToldAt es s user place found
    told_there = record { there = a.there; by = record { meant = a.by.meant; are = a.by.are; gives = refl } }

    reached_there : HasReached publisher es user s.begin sent place.end (newer sent found)
    reached_there = reached_next publisher user es s sent stored has can at [] place found reached past next_is told_there

    -- it gives nothing: the places go on behind it
    none_of : (os : List Op) → any_ops os ≡ false → newer sent (transaction_of (offset_from place.end) os) ≡ []
    none_of [] none = refl
    none_of (op ∷ os) none = absurd cc

    pub reached_past : any ≡ false → HasReached publisher es user s.begin sent place.end []
    reached_past is = subst (λ (ts : List Transaction). HasReached publisher es user s.begin sent place.end ts) (none_of ops (sym a.by.any_is ∙ is)) reached_there

    -- it gives something: it is what he needs first
    one_of : (os : List Op) → any_ops os ≡ true → (t : Transaction) × (newer sent (transaction_of (offset_from place.end) os) ≡ t ∷ [])
    one_of [] some = absurd cc
    one_of (op ∷ os) some =
        let t : Transaction = record { at = offset_from place.end; ops = op ∷ os } in
        let late : at < place.end = next_is.1 in
        (t, ap (λ (b : Bool). cond b (t ∷ []) []) (lt-ltb sent place.end (omega (arith, past, late))))

    -- so what was told then are the entries up to it
    done_there : (t : Transaction) → newer sent found ≡ t ∷ [] → reached_there.done ≡ a.there.first ++ a.there.entry ∷ []
    done_there t some = go (split_two reached_there.done reached_there.left first a.there.rest r (sym reached_there.parts ∙ a.there.parts))
      where
        go : ((between : List Recorded) × (first ≡ reached_there.done ++ between)) ⊎ ((more : List Recorded) × (reached_there.done ≡ first ++ r ∷ more)) → reached_there.done ≡ first ++ r ∷ []
        go (inl h) =
            let none : unsent publisher (reached_there.done ++ h.0) user sent ≡ [] = ap (λ (rs : List Recorded). unsent publisher rs user sent) (sym h.1) ∙ none_before at place reached next_is a.there in
            let before : unsent publisher reached_there.done user sent ≡ [] = prefix_none _ _ (unsent_prefix publisher user reached_there.done h.0 sent) none in
            let never : t ∷ [] ≡ [] = sym some ∙ reached_there.pushed_are ∙ before in
            absurd cc
        go (inr h) =
            let joined : (first ++ r ∷ []) ++ h.0 ≡ first ++ r ∷ h.0 = append_assoc first (r ∷ []) h.0 in
            let no_less : end_of (first ++ r ∷ []) ≤ end_of reached_there.done = entry_ends_before reached_there.done first h.0 r h.1 in
            let no_more : end_of reached_there.done ≤ place.end = reached_there.before in
            let ends : place.end ≡ end_of (first ++ r ∷ []) = ap (λ (p : Place). p.end) a.there.is in
            let whole : end_of reached_there.done ≡ end_of ((first ++ r ∷ []) ++ h.0) = ap end_of (h.1 ∙ sym joined) in
            let none : h.0 ≡ [] = none_rest (first ++ r ∷ []) h.0 (omega (arith, no_less, no_more, ends, whole)) in
            h.1 ∙ ap (λ (rs : List Recorded). first ++ r ∷ rs) none

    pub need_is_there : any ≡ true → end_before sent (fresh publisher) 0 es user ≡ place.start
    need_is_there is =
        let one = one_of ops (sym a.by.any_is ∙ is) in
        let given : newer sent (transaction_of (offset_from (end_of (first ++ r ∷ []))) (gives (state_of publisher first) r user)) ≡ one.0 ∷ [] =
        sym (one_given publisher user sent first r (none_before at place reached next_is a.there)) ∙ ap (λ (rs : List Recorded). unsent publisher rs user sent) (sym (done_there one.0 one.1)) ∙ sym reached_there.pushed_are ∙ one.1 in
        need_there at place reached next_is a.there
        ∙ one_is publisher user sent first a.there.rest r true (some_past sent (end_of (first ++ r ∷ [])) (gives (state_of publisher first) r user) one.0 given)
        ∙ sym (ap (λ (p : Place). p.start) a.there.is)
