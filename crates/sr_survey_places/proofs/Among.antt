-- The first place under several keys that is not left out.
use Rattle.std.proofs.Common.{ℕ, ◌<◌, ◌≤◌, List, Option, Some, None, arith, ⊎_elim}
use Rattle.std.proofs.lemmas.Bool.{cases_lt}
use Rattle.sr_survey_places.specs.Inner.Search.{IsOwn, IsFirstOther}
use Rattle.sr_survey_places.specs.Inner.Listed.{ByKey, under, IsUnder, IsFirstAmong}
use Rattle.sr_survey_places.specs.declared.key.Key.{Key}
use Rattle.sr_survey_places.specs.declared.place.Place.{Place}

module _ (lists : ByKey) (keys : List Key) (from : Key) (sent : ℕ) where
  -- the places up to an offset are left out
  abbrev pub AreOwn : ℕ → Type 0
  AreOwn passed = (x : Place) → IsUnder lists keys x → sent < x.end → x.end ≤ passed → IsOwn (under lists from) x

  pub none_own : AreOwn sent
  none_own x u late early = absurd (omega arith)

  pub own_more : (passed end : ℕ) → IsFirstOther (IsUnder lists keys) (under lists from) passed (Some end) None → AreOwn passed → AreOwn end
  own_more passed end none own x u late early = ⊎_elim (λ (h : passed < x.end). none x u h early) (λ (h : x.end ≤ passed). own x u late h) (cases_lt passed x.end)

  pub among_found : (passed : ℕ) (limit : Option ℕ) (p : Place) → sent ≤ passed → IsFirstOther (IsUnder lists keys) (under lists from) passed limit (Some p) → AreOwn passed
      → IsFirstAmong lists keys from sent (Some p)
  among_found passed limit p le first own = (
    first.0,
    (let past : passed < p.end = first.1 in omega arith),
    first.3,
    λ x u late not. ⊎_elim (λ (h : passed < x.end). first.4 x u h not) (λ (h : x.end ≤ passed). absurd (not (own x u late h))) (cases_lt passed x.end),
  )

  pub among_last : (passed : ℕ) (found : Option Place) → sent ≤ passed → IsFirstOther (IsUnder lists keys) (under lists from) passed None found → AreOwn passed
      → IsFirstAmong lists keys from sent found
  among_last passed None le first own = λ x u late. ⊎_elim (λ (h : passed < x.end). first x u h tt) (λ (h : x.end ≤ passed). own x u late h) (cases_lt passed x.end)
  among_last passed (Some p) le first own = among_found passed None p le first own
