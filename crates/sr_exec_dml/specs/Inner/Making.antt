-- What a statement that is made ready comes to at a row: whether it is selected, and the row that is made.
use Rattle.std.specs.Prelude.{ℕ, Bool, true, slice_get, List, [], ◌∷◌, Option, Some, None, Result, Ok}
use Rattle.std.specs.Option.{option_copied, option_and_then}
use Rattle.sr_base.specs.declared.value.Value.{Value as Cell}
use Rattle.sr_ast.specs.declared.expr.Expr.{Expr}
use Rattle.sr_eval.specs.Inner.Resolutions.{Resolution, meaning_at}
use Rattle.sr_catalog_schema.specs.declared.table.Column.{Column}
use Rattle.sr_catalog_schema.specs.declared.table.Table.{Table}
use Rattle.sr_catalog_schema.specs.declared.fault.DmlFault.{DmlFault}
use Rattle.sr_exec_where.specs.declared.prepared.Prepared.{Prepared}
use Rattle.sr_exec_dml.specs.declared.effect.RowEffect.{RowEffect}
use Rattle.sr_exec_dml.specs.Sequences.{front}
use Rattle.sr_exec_dml.specs.Statements.{tested, effect_of}
use Rattle.sr_exec_dml.specs.Storing.{constant, stored}

-- whether a row is selected by a resolved condition: each is where there is none
abbrev pub selected_at : List Cell → Option Resolution → Result Bool DmlFault
selected_at row None = Ok true
selected_at row (Some r) = tested (meaning_at row r)

-- what a column takes of a resolved assignment: its value over the row, or the value that it has
abbrev pub new_value : List Cell → Column → Cell → Option Resolution → Result Cell DmlFault
new_value row column old None = Ok old
new_value row column old (Some r) = stored column (meaning_at row r)

-- the row of an UPDATE, by columns, their old values and their resolved assignments
abbrev pub new_row : List Cell → List Column → List Cell → List (Option Resolution) → Result (List Cell) DmlFault
new_row row [] olds sets = Ok []
new_row row (c ∷ columns) [] sets = Ok []
new_row row (c ∷ columns) (old ∷ olds) [] = Ok []
new_row row (c ∷ columns) (old ∷ olds) (set ∷ sets) = front (new_value row c old set) (new_row row columns olds sets)

-- what a column takes of an INSERT's row, where its value stands at a place or is not given
abbrev pub given_value : List Expr → Column → Option ℕ → Result Cell DmlFault
given_value es column place = stored column (constant (option_and_then (slice_get es) place))

-- the row of an INSERT, by columns and the places of their values
abbrev pub given_row : List Expr → List Column → List (Option ℕ) → Result (List Cell) DmlFault
given_row es [] places = Ok []
given_row es (c ∷ columns) [] = Ok []
given_row es (c ∷ columns) (place ∷ places) = front (given_value es c place) (given_row es columns places)

-- what becomes of a row by a statement that is made ready
abbrev pub effect_by : Table → Prepared → List Cell → Result RowEffect DmlFault
effect_by table p row = effect_of table (option_copied p.sets) p.condition.now row
