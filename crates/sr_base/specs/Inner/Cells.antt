-- The places of a row's values, however many a row holds by itself.
use Rattle.std.specs.Prelude.{◌+◌, ◌≤◌, ◌<◌, ◌^◌, ℕ, List, length, take, drop}
use Rattle.sr_base.specs.declared.row.Cells.{Cells}
use Rattle.sr_base.specs.declared.row.Cells.TheVariants.{Two, Many}
use Rattle.sr_base.specs.declared.value.Value.{Value}

-- all values of a block of memory
abbrev pub all_values : Cells → List Value
all_values (Two pair) = pair
all_values (Many values) = values

-- those of a row, of which the first one has this place
abbrev pub values_of : Cells → ℕ → ℕ → List Value
values_of cells start width = take width (drop start (all_values cells))

-- a row lies within its block
abbrev pub LiesIn : Cells → ℕ → ℕ → Type 0
LiesIn cells start width = start + width ≤ length (all_values cells)

-- the values of which no row was made so far
abbrev pub values_left : Cells → ℕ → List Value
values_left cells next = drop next (all_values cells)

-- the places of all values are numbers of 32 bits
abbrev pub IsBlock : Cells → ℕ → Type 0
IsBlock cells next = (next ≤ length (all_values cells)) × (length (all_values cells) < 2 ^ 32)
