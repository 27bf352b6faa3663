use Rattle.std.proofs.Common.{length}
use Rattle.std.specs.List.{AllByRecursion}
use Rattle.sr_ast.specs.NormalForms.{IsNormal}
use Rattle.test_replication.proofs.databases.follow.Given as goal

abbrev pub invariant-statements : goal.invariant-statements
invariant-statements l = AllByRecursion IsNormal l.left

abbrev pub decreases-statements : goal.decreases-statements
decreases-statements l = length l.left
