use Rattle.std.proofs.Common.{length}
use Rattle.sr_receive_judged.proofs.Pendings.{PendingSoFar}
use Rattle.sr_receive_judged.proofs.judging.judge_pending.Given as goal

abbrev pub invariant-ops : goal.invariant-ops
invariant-ops l = PendingSoFar l.fn.db l.db l.above l.ops l.left l.judged.items

abbrev pub decreases-ops : goal.decreases-ops
decreases-ops l = length l.left
