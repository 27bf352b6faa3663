use Rattle.std.proofs.Common.{◌≡◌, ◌++◌, length, map, Some}
use Rattle.sr_resolve_triggers.specs.Inner.Running.{columns_behind}
use Rattle.sr_resolve_triggers.proofs.running.columns_behind.Given as goal

abbrev pub invariant-columns : goal.invariant-columns
invariant-columns l = l.scope.items ++ map (λ c. (Some l.alias, c.name, c.kind)) l.rest ≡ columns_behind l.table l.alias

abbrev pub decreases-columns : goal.decreases-columns
decreases-columns l = length l.rest
