-- Where a search ends among the places of a table that stand in the order of their keys.
use Rattle.std.specs.Prelude.{◌≡◌, ⊤, ◌<◌, ◌≤◌, ℕ, List, length, Option, Result, Ok, Err}
use Rattle.std.specs.declared.cmp.Ordering.TheVariants.{Less, Greater}
use Rattle.std.specs.List.{AllWithin, HoldsAt}
use Rattle.std.specs.List.Sorted.{IsStrictlySortedBy}
use Rattle.std.specs.Map.{keys_of}
use Rattle.sr_base.specs.declared.value.Value.{Value}
use Rattle.sr_base.specs.Order.{key_cmp}
use Rattle.sr_rows.specs.declared.rising.Refused.{Refused}
use Rattle.sr_rows.specs.declared.rising.Refused.TheVariants.{NoMemory, Between}

-- the keys rise
abbrev pub InOrder : List (List Value × Option (List Value)) → Type 0
InOrder places = IsStrictlySortedBy key_cmp (keys_of places)

-- at the place of a key, or else behind the lower keys and before the higher ones
abbrev pub EndsAt : List (List Value × Option (List Value)) → List Value → Result ℕ ℕ → Type 0
EndsAt places key (Ok at) = (at < length places) × HoldsAt (λ e. e.0 ≡ key) places at
EndsAt places key (Err at) = (at ≤ length places) × AllWithin (λ e. key_cmp e.0 key ≡ Less) places 0 at × AllWithin (λ e. key_cmp e.0 key ≡ Greater) places at (length places)

-- a key that comes between others is given back with what was to stand at its place
abbrev pub IsGivenBack : List Value → Option (List Value) → Refused → Type 0
IsGivenBack key place NoMemory = ⊤
IsGivenBack key place (Between k p) = (k ≡ key) × (p ≡ place)
