use Rattle.std.proofs.Common.{◌≡◌, ◌+◌, length}
use Rattle.sr_logform.specs.Outcomes.{change_spelling}
use Rattle.sr_resolve.proofs.Measured.{items_length}
use Rattle.sr_resolve.proofs.measuring.is_too_long.Given as goal

abbrev pub invariant-changes : goal.invariant-changes
invariant-changes l = l.room + items_length change_spelling l.changes ≡ 4194300 + items_length change_spelling l.left

abbrev pub decreases-changes : goal.decreases-changes
decreases-changes l = length l.left
