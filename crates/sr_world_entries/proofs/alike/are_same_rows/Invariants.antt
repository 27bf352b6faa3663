use Rattle.std.proofs.Common.{◌≡◌, ◌↔◌, length}
use Rattle.sr_world_entries.proofs.alike.are_same_rows.Given as goal

-- they are one where what is left of them is
abbrev pub invariant-rows : goal.invariant-rows
invariant-rows l = (l.left ≡ l.right) ↔ (l.rows ≡ l.others)

abbrev pub decreases-rows : goal.decreases-rows
decreases-rows l = length l.left
