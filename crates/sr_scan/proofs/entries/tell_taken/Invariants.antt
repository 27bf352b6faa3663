use Rattle.std.proofs.Common.{length}
use Rattle.sr_scan.proofs.Taking.{GoesOn}
use Rattle.sr_scan.proofs.entries.tell_taken.Given as goal

abbrev pub invariant-taken : goal.invariant-taken
invariant-taken l = GoesOn l.is_origin l.catalog l.user l.taken l.ops.items l.sight l.left

abbrev pub decreases-taken : goal.decreases-taken
decreases-taken l = length l.left
