use Rattle.std.proofs.Common.{◌≡◌, ◌↔◌, length}
use Rattle.sr_world_entries.proofs.alike.are_same_changes.Given as goal

-- they are one where what is left of them is
abbrev pub invariant-changes : goal.invariant-changes
invariant-changes l = (l.left ≡ l.right) ↔ (l.changes ≡ l.others)

abbrev pub decreases-changes : goal.decreases-changes
decreases-changes l = length l.left
