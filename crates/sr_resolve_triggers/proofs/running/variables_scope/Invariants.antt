use Rattle.std.proofs.Common.{◌≡◌, ◌++◌, length}
use Rattle.sr_catalog_triggers.specs.Triggers.{variables_scope}
use Rattle.sr_resolve_triggers.proofs.running.variables_scope.Given as goal

abbrev pub invariant-variables : goal.invariant-variables
invariant-variables l = l.scope.items ++ variables_scope l.rest ≡ variables_scope l.variables

abbrev pub decreases-variables : goal.decreases-variables
decreases-variables l = length l.rest
