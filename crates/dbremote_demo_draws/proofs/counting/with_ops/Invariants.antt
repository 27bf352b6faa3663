use Rattle.std.proofs.Common.{◌≡◌, length}
use Rattle.dbremote_demo_draws.specs.Counts.{with_ops}
use Rattle.dbremote_demo_draws.proofs.counting.with_ops.Given as goal

-- with those of the ops that are left it comes to all
abbrev pub invariant-ops : goal.invariant-ops
invariant-ops l = with_ops l.left l.counted ≡ with_ops l.ops l.fn.outcomes

abbrev pub decreases-ops : goal.decreases-ops
decreases-ops l = length l.left
