-- When the rows of tables fit them.
use Rattle.std.specs.Prelude.{◌≡◌, ℕ, List, Some, IsSome}
use Rattle.sr_base.specs.declared.value.Value.{Value as Cell}
use Rattle.sr_exec_fits.specs.Rows.{IsRow}
use Rattle.sr_rows.specs.Marks.{RowMap, rows_of_table}
use Rattle.sr_catalog_schema.specs.Catalogs.{Lists}
use Rattle.sr_catalog_schema.specs.declared.table.Table.{Table}
use Rattle.sr_exec_where.specs.Keys.{key_of}
use Rattle.sr_exec_dml.specs.Statements.{table_named}

-- each row of a table fits it, and stands under its key
abbrev pub TableFits : Table → RowMap → Type 0
TableFits table rows = (key row : List Cell) → rows_of_table rows table.name key ≡ Some row → IsRow table.columns row × (key_of table.key row ≡ key)

-- each row of each table of the catalog fits it, and no row stands in a table that is not there
pub record RowsFit (catalog : Lists) (rows : RowMap) : Type 0 where
  pub each : (name : List ℕ) (table : Table) → table_named catalog name ≡ Some table → TableFits table rows
  pub there : (name : List ℕ) (key row : List Cell) → rows_of_table rows name key ≡ Some row → IsSome (table_named catalog name)
