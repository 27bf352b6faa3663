-- The rows that a statement leaves: its table has other entries, and the other tables keep theirs.
use Rattle.std.specs.Prelude.{◌++◌, map, ℕ, List, [], ◌∷◌, Option, Some, None, Result, Ok, Err}
use Rattle.std.specs.FinMap as map_of
use Rattle.sr_ast.specs.declared.expr.Expr.{Expr}
use Rattle.sr_ast.specs.declared.query.Insert.{Insert}
use Rattle.sr_ast.specs.declared.query.Dml.{Dml}
use Rattle.sr_ast.specs.declared.query.Dml.TheVariants as dml
use Rattle.sr_rows.specs.Marks.{RowMap}
use Rattle.sr_rows.specs.Steps.{without_table}
use Rattle.sr_rows.specs.Walks.{Entry, table_rows}
use Rattle.sr_catalog_schema.specs.Catalogs.{Lists}
use Rattle.sr_catalog_schema.specs.declared.table.Table.{Table}
use Rattle.sr_exec_dml.specs.Statements.{entry_of, inserted_rows, effects_of, staying, becoming, table_named}

-- entries put into a table
abbrev pub with_entries : List ℕ → List Entry → RowMap → RowMap
with_entries name [] rows = rows
with_entries name (e ∷ entries) rows = map_of.insert (with_entries name entries rows) (name, e.0) e.1

-- a table with these entries in place of its own
abbrev pub replaced : List ℕ → List Entry → RowMap → RowMap
replaced name entries rows = with_entries name entries (without_table rows name)

-- what comes of an answer; the same rows where it is a refusal
abbrev pub where_Ok : {A E : Type 0} → Result A E → (A → RowMap) → RowMap → RowMap
where_Ok (Err e) f rows = rows
where_Ok (Ok x) f rows = f x

-- an INSERT adds its rows
abbrev pub after_insert : Table → Insert → RowMap → RowMap
after_insert table i rows = where_Ok (inserted_rows table i) (λ new. replaced table.name (table_rows rows table.name ++ map (entry_of table) new) rows) rows

-- an UPDATE or a DELETE takes the selected rows, and puts those that they become
abbrev pub after_move : Table → Option (List (List ℕ × Expr)) → Option Expr → RowMap → RowMap
after_move table sets condition rows =
    where_Ok (effects_of table sets condition (table_rows rows table.name))
    (λ effects. replaced table.name (staying (table_rows rows table.name) effects ++ map (entry_of table) (becoming effects)) rows) rows

-- a table that is there changes the rows
abbrev pub in_table : Option Table → (Table → RowMap → RowMap) → RowMap → RowMap
in_table None f rows = rows
in_table (Some table) f rows = f table rows

-- the rows after a statement that is not refused
abbrev pub rows_after : Lists → RowMap → Dml → RowMap
rows_after catalog rows (dml.Insert i) = in_table (table_named catalog i.table) (λ table. after_insert table i) rows
rows_after catalog rows (dml.Update u) = in_table (table_named catalog u.table) (λ table. after_move table (Some u.sets) u.condition) rows
rows_after catalog rows (dml.Delete d) = in_table (table_named catalog d.table) (λ table. after_move table None d.condition) rows
