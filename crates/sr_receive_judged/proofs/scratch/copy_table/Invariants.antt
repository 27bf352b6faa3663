use Rattle.std.proofs.Common.{length}
use Rattle.sr_receive_judged.proofs.Copying.{CopyingRows}
use Rattle.sr_receive_judged.proofs.scratch.copy_table.Given as goal

abbrev pub invariant-rows : goal.invariant-rows
invariant-rows l = CopyingRows l.rows.rows l.table l.fn.copy l.copy l.walk

abbrev pub decreases-rows : goal.decreases-rows
decreases-rows l = length l.walk
