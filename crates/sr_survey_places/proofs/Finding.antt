-- What a search among places in order finds.
use Rattle.std.proofs.Common.{◌≡◌, ℕ, ◌<◌, ◌≤◌, ◌+◌, ◌-◌, List, length, get_or, Option, Some, None, sym, ap, subst, arith, ◌∙◌, ⊎_elim}
use Rattle.std.proofs.lemmas.List.{get_or_default}
use Rattle.std.proofs.lemmas.List.Elements.{Contains-get_or}
use Rattle.std.proofs.lemmas.Bool.{cases_lt}
use Rattle.std.specs.List.{AllWithin, Contains}
use Rattle.sr_survey_places.specs.Inner.Search.{InOrder, IsOwn, IsWithin, IsFirstOther}
use Rattle.sr_survey_places.specs.declared.place.Place.{Place}

-- where the first that ends no sooner ends elsewhere, none ends there
pub not_own : (own : List Place) (p d : Place) (at : ℕ) → InOrder own → AllWithin (λ x. x.end < p.end) own 0 at → AllWithin (λ x. p.end ≤ x.end) own at (length own)
    → (at < length own → (get_or own at d).end ≡ p.end → ⊥) → IsOwn own p → ⊥
not_own own p d at order passed left other is = ⊎_elim before behind (cases_lt is.0 at) where
  before : is.0 < at → ⊥
  before lt = let less : (get_or own is.0 p).end < p.end = passed is.0 p (omega arith) lt in let same : (get_or own is.0 p).end ≡ p.end = is.2 in absurd (omega arith)

  behind : at ≤ is.0 → ⊥
  behind le =
      let within : at < length own = let l : is.0 < length own = is.1 in omega arith in
      let no_less : p.end ≤ (get_or own at d).end = left at d (omega arith) within in
      let in_order : (get_or own at d).end ≤ (get_or own is.0 d).end = order at is.0 d le is.1 in
      let same : (get_or own is.0 d).end ≡ p.end = ap (λ (x : Place). x.end) (get_or_default own is.0 d p is.1) ∙ is.2 in
      other within (omega arith)

-- where the last one ends at an offset or before it, all do
pub all_passed : (places : List Place) (d : Place) (sent : ℕ) → InOrder places → (get_or places (length places - 1) d).end ≤ sent → AllWithin (λ p. p.end ≤ sent) places 0 (length places)
all_passed places d sent order last = λ k e from l.
    let in_order : (get_or places k e).end ≤ (get_or places (length places - 1) e).end = order k (length places - 1) e (omega arith) (omega arith) in
    let same : (get_or places (length places - 1) e).end ≡ (get_or places (length places - 1) d).end = ap (λ (x : Place). x.end) (get_or_default places (length places - 1) e d (omega arith)) in
    omega arith

-- a place that ends where one of others does is among them
pub own_here : (own : List Place) (near : ℕ) (p d : Place) → near < length own → (get_or own near d).end ≡ p.end → IsOwn own p
own_here own near p d within same = (near, within, ap (λ (x : Place). x.end) (get_or_default own near p d within) ∙ same)

-- what ends no later lies within a limit too
nearer : (limit : Option ℕ) (at later : ℕ) → at ≤ later → IsWithin limit later → IsWithin limit at
nearer None at later le within = tt
nearer (Some l) at later le within = let w : later ≤ l = within in omega arith

module _ (places own : List Place) (passed : ℕ) where
  -- those before a number of them that end past the offset are others' too
  abbrev pub AreOwnBefore : ℕ → Type 0
  AreOwnBefore at = (x : Place) (k : ℕ) → k < at → k < length places → get_or places k x ≡ x → passed < x.end → IsOwn own x

  same_end : (x : Place) (k : ℕ) → get_or places k x ≡ x → (get_or places k x).end ≡ x.end
  same_end x k is = ap (λ (y : Place). y.end) is

  pub own_at_first : (at : ℕ) → AllWithin (λ p. p.end ≤ passed) places 0 at → AreOwnBefore at
  own_at_first at early x k lt l is late = let no_more : (get_or places k x).end ≤ passed = early k x (omega arith) lt in let same : (get_or places k x).end ≡ x.end = same_end x k is in absurd (omega arith)

  pub own_next : (at : ℕ) (d : Place) → at < length places → IsOwn own (get_or places at d) → AreOwnBefore at → AreOwnBefore (at + 1)
  own_next at d within here own_before x k lt l is late = ⊎_elim (λ (h : k < at). own_before x k h l is late) (λ (h : at ≤ k). there (omega arith)) (cases_lt k at) where
    there : k ≡ at → IsOwn own x
    there e = subst (λ y. IsOwn own y) (get_or_default places at d x within ∙ ap (λ n. get_or places n x) (sym e) ∙ is) here

  -- those at a number and behind it end no sooner than the one there
  no_sooner : (at : ℕ) (d x : Place) (k : ℕ) → InOrder places → at ≤ k → k < length places → get_or places k x ≡ x → (get_or places at d).end ≤ x.end
  no_sooner at d x k order le l is =
      let in_order : (get_or places at d).end ≤ (get_or places k d).end = order at k d le l in
      let e : (get_or places k d).end ≡ x.end = ap (λ (y : Place). y.end) (get_or_default places k d x l ∙ is) in
      omega arith

  pub other_is : (limit : Option ℕ) (at : ℕ) (d : Place) → InOrder places → AllWithin (λ p. passed < p.end) places at (length places) → at < length places → IsWithin limit (get_or places at d).end
      → (IsOwn own (get_or places at d) → ⊥) → AreOwnBefore at → IsFirstOther (Contains places) own passed limit (Some (get_or places at d))
  other_is limit at d order left l within other own_before = (
    Contains-get_or places at d l,
    left at d (omega arith) l,
    within,
    other,
    λ x has late not. ⊎_elim (λ (h : has.0 < at). absurd (not (own_before x has.0 h has.1 has.2 late))) (λ (h : at ≤ has.0). no_sooner at d x has.0 order h has.1 has.2) (cases_lt has.0 at),
  )

  pub none_within : (limit : Option ℕ) (at : ℕ) (d : Place) → InOrder places → (IsWithin limit (get_or places at d).end → ⊥) → AreOwnBefore at → IsFirstOther (Contains places) own passed limit None
  none_within limit at d order past own_before = λ x has late within.
      ⊎_elim (λ (h : has.0 < at). own_before x has.0 h has.1 has.2 late) (λ (h : at ≤ has.0). absurd (past (nearer limit (get_or places at d).end x.end (no_sooner at d x has.0 order h has.1 has.2) within))) (cases_lt has.0 at)

  pub none_left : (limit : Option ℕ) (at : ℕ) → length places ≤ at → AreOwnBefore at → IsFirstOther (Contains places) own passed limit None
  none_left limit at all own_before = λ x has late within. let l : has.0 < length places = has.1 in own_before x has.0 (omega arith) has.1 has.2 late
