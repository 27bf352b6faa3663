-- The rows of the only source of a statement that may meet its conditions.
use Rattle.std.specs.Prelude.{List, [], ◌∷◌, map, Option, Some, None}
use Rattle.std.specs.Option.{option_copied}
use Rattle.sr_base.specs.declared.value.Value.{Value as Cell}
use Rattle.sr_rows.specs.Walks.{Entry}
use Rattle.sr_query.specs.declared.candidates.Candidates.{Candidates}
use Rattle.sr_query.specs.declared.candidates.Candidates.TheVariants.{All, One}

-- a row, if there is one
abbrev pub as_rows : Option (List Cell) → List (List Cell)
as_rows None = []
as_rows (Some row) = row ∷ []

-- those that are left to look at
abbrev pub rows_left : Candidates → List (List Cell)
rows_left (All entries) = map (λ (e : Entry). e.1) entries
rows_left (One row) = as_rows (option_copied row)
