-- What holds of every state on the way of a history, and of the rows of a conflict.
use Rattle.std.specs.Prelude.{◌≡◌, List, Some}
use Rattle.sr_base.specs.declared.value.Value.{Value as Cell}
use Rattle.sr_book.specs.Entries.{Name}
use Rattle.sr_catalog_schema.specs.declared.table.Table.{Table}
use Rattle.sr_exec_dml.specs.Applying.{applied}
use Rattle.sr_exec_dml.specs.Statements.{table_named}
use Rattle.sr_exec_where.specs.Keys.{key_of}
use Rattle.sr_exec_dml.specs.Fitting.{RowsFit}
use Rattle.sr_catalog_script_laws.specs.Scripts.{IsSpellable}
use Rattle.sr_logform.specs.declared.change.Change.{Change}
use Rattle.sr_rows.specs.Marks.{rows_of_table}
use Rattle.sr_database_history.specs.Fitting.{IsNamedKey}
use Rattle.sr_database_history.specs.Folds.{State}

-- each row fits its table, and accepted statements in normal form have made the catalog
pub record Holds (s : State) : Type 0 where
  pub rows : RowsFit s.catalog s.rows
  pub catalog : IsSpellable s.catalog

-- a conflict meets a row: once the triggers have inserted theirs, the table holds the row before under the key that columns name, and the row after
-- stands under the same key
abbrev pub MeetsRow : State → Name → List (Name × Cell) → List Change → List Cell → List Cell → Type 0
MeetsRow s table columns inserts before after = (t : Table) × (key : List Cell) × (table_named s.catalog table ≡ Some t) × IsNamedKey t columns key
    × (rows_of_table (applied s.catalog inserts s.rows) table key ≡ Some before) × (key_of t.key after ≡ key)
