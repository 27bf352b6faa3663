use Rattle.std.proofs.Common.{◌≡◌, ◌++◌, map, length}
use Rattle.sr_catalog_schema.specs.declared.table.Column.{Column}
use Rattle.sr_exec_where.proofs.names.all_names.Given as goal

abbrev pub invariant-columns : goal.invariant-columns
invariant-columns l = l.names.items ++ map (λ (c : Column). c.name) l.left ≡ map (λ (c : Column). c.name) l.columns

abbrev pub decreases-columns : goal.decreases-columns
decreases-columns l = length l.left
