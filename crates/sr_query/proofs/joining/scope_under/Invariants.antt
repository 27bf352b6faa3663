use Rattle.std.proofs.Common.{◌≡◌, ◌++◌, map, length}
use Rattle.std.specs.Prelude.{Some}
use Rattle.sr_catalog_schema.specs.declared.table.Column.{Column}
use Rattle.sr_query.proofs.joining.scope_under.Given as goal

abbrev pub invariant-columns : goal.invariant-columns
invariant-columns l = l.scope.items ++ map (λ (c : Column). (Some l.alias, c.name, c.kind)) l.left
    ≡ map (λ (c : Column). (Some l.alias, c.name, c.kind)) l.table.columns

abbrev pub decreases-columns : goal.decreases-columns
decreases-columns l = length l.left
