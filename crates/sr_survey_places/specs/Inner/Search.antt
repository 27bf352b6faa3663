-- Places in order, and the first of them that is not left out.
use Rattle.std.specs.Prelude.{◌≡◌, ℕ, ⊤, ◌≤◌, ◌<◌, cond, nat_le, List, [], Option, Some, None, length, slice_index_or}
use Rattle.std.specs.List.Sorted.{IsNonDecreasingBy}
use Rattle.sr_survey_places.specs.declared.place.Place.{Place}

-- the places of a list that may not be there
abbrev pub places_in : Option (List Place) → List Place
places_in None = []
places_in (Some places) = places

-- places in the order of their ends
abbrev pub InOrder : List Place → Type 0
InOrder places = IsNonDecreasingBy (λ p. p.end) places

-- a place is among others, by its end
abbrev pub IsOwn : List Place → Place → Type 0
IsOwn own p = (k : ℕ) × (k < length own) × ((slice_index_or own k p).end ≡ p.end)

-- an offset lies within a limit, where there is one
abbrev pub IsWithin : Option ℕ → ℕ → Type 0
IsWithin None at = ⊤
IsWithin (Some limit) at = at ≤ limit

-- of the places of which something holds, the first that ends past an offset, within a limit, and is none of others; none only where there is none
abbrev pub IsFirstOther : (Place → Type 0) → List Place → ℕ → Option ℕ → Option Place → Type 0
IsFirstOther Holds own passed limit None = (x : Place) → Holds x → passed < x.end → IsWithin limit x.end → IsOwn own x
IsFirstOther Holds own passed limit (Some p) = Holds p × (passed < p.end) × IsWithin limit p.end × ¬ (IsOwn own p) × ((x : Place) → Holds x → passed < x.end → ¬ (IsOwn own x) → p.end ≤ x.end)

-- the one that ends first
abbrev pub earlier : Option Place → Option Place → Option Place
earlier None o = o
earlier (Some p) None = Some p
earlier (Some p) (Some q) = cond (nat_le p.end q.end) (Some p) (Some q)
