use Rattle.std.proofs.Common.{◌≡◌, ◌++◌, length, map, Some}
use Rattle.sr_catalog_schema.specs.Members.{scope_of}
use Rattle.sr_catalog_schema.proofs.columns.scope_of.Given as goal

abbrev pub invariant-columns : goal.invariant-columns
invariant-columns l = l.scope.items ++ map (λ c. (Some l.table.name, c.name, c.kind)) l.rest ≡ scope_of l.table

abbrev pub decreases-columns : goal.decreases-columns
decreases-columns l = length l.rest
