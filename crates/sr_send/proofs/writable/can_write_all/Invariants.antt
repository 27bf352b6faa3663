use Rattle.std.proofs.Common.{◌↔◌, length}
use Rattle.std.specs.List.{AllByRecursion}
use Rattle.sr_logform.specs.Ops.{IsShortOp}
use Rattle.sr_send.proofs.writable.can_write_all.Given as goal

-- all can be written where those that are left can
abbrev pub invariant-ops : goal.invariant-ops
invariant-ops l = AllByRecursion IsShortOp l.left ↔ AllByRecursion IsShortOp l.ops

abbrev pub decreases-ops : goal.decreases-ops
decreases-ops l = length l.left
