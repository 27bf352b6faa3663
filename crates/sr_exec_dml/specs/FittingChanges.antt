-- Changes that fit rows: those of a statement, and those that are read and may be applied.
use Rattle.std.specs.Prelude.{◌≡◌, ⊤, List, [], ◌∷◌, Option, Some, None}
use Rattle.sr_base.specs.declared.value.Value.{Value as Cell}
use Rattle.sr_rows.specs.Marks.{RowMap, rows_of_table}
use Rattle.sr_logform.specs.declared.change.Change.{Change}
use Rattle.sr_catalog_schema.specs.Catalogs.{Lists}
use Rattle.sr_catalog_schema.specs.declared.table.Table.{Table}
use Rattle.sr_exec_dml.specs.Applying.{applied_in}
use Rattle.sr_exec_fits.specs.Rows.{IsRow}
use Rattle.sr_exec_where.specs.Keys.{key_of}
use Rattle.sr_exec_dml.specs.Statements.{table_named}

-- a row, if there is one, fits the table and has the key
abbrev pub FitsAt : Table → List Cell → Option (List Cell) → Type 0
FitsAt table key None = ⊤
FitsAt table key (Some row) = IsRow table.columns row × (key_of table.key row ≡ key)

-- a change of a table that is there, at one key: what is held there is the row before, and the row after fits there
pub record IsFitChange (catalog : Lists) (rows : RowMap) (c : Change) : Type 0 where
  pub table : Table
  pub named : table_named catalog c.table ≡ Some table
  pub key : List Cell
  pub held : rows_of_table rows c.table key ≡ c.before
  pub fits : FitsAt table key c.after

-- each change fits the rows that those before it leave
abbrev pub ChangesFit : Lists → RowMap → List Change → Type 0
ChangesFit catalog rows [] = ⊤
ChangesFit catalog rows (c ∷ changes) = IsFitChange catalog rows c × ChangesFit catalog (applied_in (table_named catalog c.table) c rows) changes
