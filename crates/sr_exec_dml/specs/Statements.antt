-- What INSERT, UPDATE and DELETE do to the rows of a table.
use Rattle.std.specs.Prelude.{ℕ, ◌+◌, Bool, true, false, List, [], ◌∷◌, ◌++◌, map, length, Option, Some, None, Result, Ok, Err}
use Rattle.sr_base.specs.declared.value.Value.{Value as Cell}
use Rattle.sr_ast.specs.Exprs.{term_of}
use Rattle.sr_ast.specs.declared.expr.Expr.{Expr}
use Rattle.sr_ast.specs.declared.query.Dml.{Dml}
use Rattle.sr_ast.specs.declared.query.Dml.TheVariants as dml
use Rattle.sr_ast.specs.declared.query.Insert.{Insert}
use Rattle.sr_ast.specs.declared.query.Update.{Update}
use Rattle.sr_ast.specs.declared.query.Delete.{Delete}
use Rattle.sr_eval.specs.Meanings.{Meaning, meaning, is_true}
use Rattle.sr_rows.specs.Marks.{RowMap}
use Rattle.sr_rows.specs.Walks.{Entry, table_rows}
use Rattle.sr_logform.specs.declared.change.Change.{Change}
use Rattle.sr_catalog_schema.specs.Catalogs.{Lists}
use Rattle.sr_catalog_schema.specs.Names.{named}
use Rattle.sr_catalog_schema.specs.declared.table.Table.{Table}
use Rattle.sr_catalog_schema.specs.declared.fault.DmlFault.{DmlFault}
use Rattle.sr_catalog_schema.specs.declared.fault.DmlFault.TheVariants.{NoTable, NoColumn, BadValue, Overflow}
use Rattle.sr_exec_dml.specs.declared.changes.Changes.{Changes}
use Rattle.sr_exec_dml.specs.declared.effect.RowEffect.{RowEffect}
use Rattle.sr_exec_dml.specs.declared.effect.RowEffect.TheVariants.{Stays, Goes, Becomes}
use Rattle.sr_exec_where.specs.Checks.{Scope, unknown_condition, bad_condition, unknown_in_insert, bad_in_insert, unknown_in_update, bad_in_update}
use Rattle.sr_exec_where.specs.Keys.{key_of}
use Rattle.sr_exec_where.specs.Naming.{names_of}
use Rattle.sr_catalog_schema.specs.Members.{scope_of}
use Rattle.sr_exec_dml.specs.Holding.{held}
use Rattle.sr_exec_dml.specs.Sequences.{each, followed}
use Rattle.sr_exec_dml.specs.Storing.{inserted_row, updated_row}

-- the order of refusals after NoTable: the leftmost unknown column, the leftmost wrong class, count or column named twice, and
-- then what the rows refuse, one after the other; last the least key that two rows would hold
abbrev pub in_order : {A : Type 0} → Option (List ℕ) → Option (List ℕ) → Result A DmlFault → Result A DmlFault
in_order (Some column) bad rows = Err (NoColumn column)
in_order None (Some name) rows = Err (BadValue name)
in_order None None rows = rows

-- a row under its key
abbrev pub entry_of : Table → List Cell → Entry
entry_of table row = (key_of table.key row, row)

-- the changes, and the number of rows that the statement is answered with
abbrev pub counted : ℕ → List Change → Result Changes DmlFault
counted count list = Ok (record { list = list; count = count })

-- the rows of an INSERT as written, or the first fault of one
abbrev pub inserted_rows : Table → Insert → Result (List (List Cell)) DmlFault
inserted_rows table i = each (λ es. inserted_row (names_of table.columns i.columns) es table.columns) i.rows

-- INSERT adds its rows
abbrev pub inserted : Table → Insert → List Entry → Result Changes DmlFault
inserted table i before =
    in_order (unknown_in_insert table i) (bad_in_insert table i)
    (followed (inserted_rows table i) (λ rows. followed (held table.name before (before ++ map (entry_of table) rows)) (counted (length rows))))

-- whether a condition that has a value is true
abbrev pub tested : Option Meaning → Result Bool DmlFault
tested None = Err Overflow
tested (Some m) = Ok (is_true (Some m))

-- whether a row is selected: each is where there is no condition
abbrev pub selected : Scope → Option Expr → List Cell → Result Bool DmlFault
selected scope None row = Ok true
selected scope (Some e) row = tested (meaning scope row (term_of e))

-- what becomes of a row that is selected: DELETE takes it, UPDATE makes another of it
abbrev pub effect_selected : Table → Option (List (List ℕ × Expr)) → List Cell → Result RowEffect DmlFault
effect_selected table None row = Ok Goes
effect_selected table (Some sets) row = followed (updated_row (scope_of table) row sets table.columns row) (λ new. Ok (Becomes new))

abbrev pub effect_if : Bool → Result RowEffect DmlFault → Result RowEffect DmlFault
effect_if true effect = effect
effect_if false effect = Ok Stays

-- what becomes of a row, with the assignments of an UPDATE, or with none in a DELETE
abbrev pub effect_of : Table → Option (List (List ℕ × Expr)) → Option Expr → List Cell → Result RowEffect DmlFault
effect_of table sets condition row = followed (selected (scope_of table) condition row) (λ is_selected. effect_if is_selected (effect_selected table sets row))

-- the rows that stay
abbrev pub staying : List Entry → List RowEffect → List Entry
staying [] effects = []
staying (e ∷ entries) [] = []
staying (e ∷ entries) (Stays ∷ effects) = e ∷ staying entries effects
staying (e ∷ entries) (Goes ∷ effects) = staying entries effects
staying (e ∷ entries) (Becomes row ∷ effects) = staying entries effects

-- the rows that others become
abbrev pub becoming : List RowEffect → List (List Cell)
becoming [] = []
becoming (Stays ∷ effects) = becoming effects
becoming (Goes ∷ effects) = becoming effects
becoming (Becomes row ∷ effects) = row ∷ becoming effects

-- how many rows are selected
abbrev pub selections : List RowEffect → ℕ
selections [] = 0
selections (Stays ∷ effects) = selections effects
selections (Goes ∷ effects) = selections effects + 1
selections (Becomes row ∷ effects) = selections effects + 1

-- the selected rows are taken from under their keys, and then those that they become are added
abbrev pub moved : Table → List Entry → List RowEffect → Result Changes DmlFault
moved table before effects = followed (held table.name before (staying before effects ++ map (entry_of table) (becoming effects))) (counted (selections effects))

-- the effects of all rows by their old keys, or the first fault of one
abbrev pub effects_of : Table → Option (List (List ℕ × Expr)) → Option Expr → List Entry → Result (List RowEffect) DmlFault
effects_of table sets condition before = each (λ e. effect_of table sets condition e.1) before

-- the rows that a condition selects are moved, by the effects on the old rows
abbrev pub moved_selected : Table → Option (List (List ℕ × Expr)) → Option Expr → List Entry → Result Changes DmlFault
moved_selected table sets condition before = followed (effects_of table sets condition before) (moved table before)

-- UPDATE evaluates all rows on the old ones
abbrev pub updated : Table → Update → List Entry → Result Changes DmlFault
updated table u before = in_order (unknown_in_update table u) (bad_in_update table u) (moved_selected table (Some u.sets) u.condition before)

-- DELETE takes the rows whose condition is true
abbrev pub deleted : Table → Delete → List Entry → Result Changes DmlFault
deleted table d before =
    in_order (unknown_condition (scope_of table) d.condition) (bad_condition (scope_of table) table.name d.condition) (moved_selected table None d.condition before)

-- a statement on a table that is there
abbrev pub on_table : {A : Type 0} → List ℕ → Option Table → (Table → Result A DmlFault) → Result A DmlFault
on_table name None f = Err (NoTable name)
on_table name (Some table) f = f table

-- the table of a name
abbrev pub table_named : Lists → List ℕ → Option Table
table_named catalog name = named (λ t. t.name) name catalog.tables

-- what a statement does to the rows of a database: its changes, or the first refusal
abbrev pub done : Lists → RowMap → Dml → Result Changes DmlFault
done catalog rows (dml.Insert i) = on_table i.table (table_named catalog i.table) (λ table. inserted table i (table_rows rows table.name))
done catalog rows (dml.Update u) = on_table u.table (table_named catalog u.table) (λ table. updated table u (table_rows rows table.name))
done catalog rows (dml.Delete d) = on_table d.table (table_named catalog d.table) (λ table. deleted table d (table_rows rows table.name))
