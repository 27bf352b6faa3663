use Rattle.std.proofs.Common.{◌≡◌, length, bytes_eq}
use Rattle.std.specs.List.{list_any}
use Rattle.sr_catalog_schema.specs.declared.table.Column.{Column}
use Rattle.sr_exec_where.proofs.names.is_column.Given as goal

abbrev pub invariant-columns : goal.invariant-columns
invariant-columns l = list_any (λ (c : Column). bytes_eq l.name c.name) l.left ≡ list_any (λ (c : Column). bytes_eq l.name c.name) l.columns

abbrev pub decreases-columns : goal.decreases-columns
decreases-columns l = length l.left
