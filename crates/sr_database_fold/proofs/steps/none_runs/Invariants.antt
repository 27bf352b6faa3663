use Rattle.std.proofs.Common.{◌↔◌, length}
use Rattle.sr_database_fold.specs.Inner.Reached.{NoneRuns}
use Rattle.sr_database_fold.proofs.steps.none_runs.Given as goal

abbrev pub invariant-ops : goal.invariant-ops
invariant-ops l = NoneRuns l.ops ↔ NoneRuns l.left

abbrev pub decreases-ops : goal.decreases-ops
decreases-ops l = length l.left
