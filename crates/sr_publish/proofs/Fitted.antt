-- A row that fits a table may be evaluated over its columns.
use Rattle.std.proofs.Common.{List}
use Rattle.sr_base.specs.declared.value.Value.{Value as Cell}
use Rattle.sr_eval.specs.Bounds.{IsRowOf}
use Rattle.sr_exec_fits.specs.Rows.{IsRow}
use Rattle.sr_exec_fits.proofs.Rows.{row_of}
use Rattle.sr_catalog_schema.specs.Members.{scope_of}
use Rattle.sr_catalog_schema.specs.declared.table.Table.{Table}

pub row_bound : (t : Table) (row : List Cell) → IsRow t.columns row → IsRowOf (scope_of t) row
row_bound t row fits = row_of t.name t.columns row fits
