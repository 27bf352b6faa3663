use Rattle.std.proofs.Common.{◌≡◌, length}
use Rattle.sr_survey.proofs.taking_up.take_up_ops.Given as goal

abbrev pub invariant-ops : goal.invariant-ops
invariant-ops l = l.catalog ≡ l.fn.catalog

abbrev pub decreases-ops : goal.decreases-ops
decreases-ops l = length l.left
