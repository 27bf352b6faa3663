use Rattle.std.proofs.Common.{◌≡◌, [], length}
use Rattle.sr_catalog_schema.specs.Members.{scope_of}
use Rattle.sr_exec_where.specs.Checks.{bad_sets}
use Rattle.sr_exec_where.proofs.checks.bad_sets.Given as goal

abbrev pub invariant-sets : goal.invariant-sets
invariant-sets l = bad_sets (scope_of l.table) l.before.items l.left ≡ bad_sets (scope_of l.table) [] l.sets

abbrev pub decreases-sets : goal.decreases-sets
decreases-sets l = length l.left
