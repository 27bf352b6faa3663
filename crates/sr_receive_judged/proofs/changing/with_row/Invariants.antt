use Rattle.std.proofs.Common.{◌≡◌, ◌++◌, length}
use Rattle.sr_receive_judged.proofs.changing.with_row.Given as goal

abbrev pub invariant-inserts : goal.invariant-inserts
invariant-inserts l = l.inserts ≡ l.changes.items ++ l.left

abbrev pub decreases-inserts : goal.decreases-inserts
decreases-inserts l = length l.left
