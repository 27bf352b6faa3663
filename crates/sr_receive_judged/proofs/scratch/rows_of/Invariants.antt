use Rattle.std.proofs.Common.{length}
use Rattle.sr_receive_judged.proofs.Copying.{CopyingTables}
use Rattle.sr_receive_judged.proofs.scratch.rows_of.Given as goal

abbrev pub invariant-tables : goal.invariant-tables
invariant-tables l = CopyingTables l.rows.rows l.tables l.left l.copy

abbrev pub decreases-tables : goal.decreases-tables
decreases-tables l = length l.left
