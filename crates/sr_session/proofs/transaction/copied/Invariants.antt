use Rattle.std.proofs.Common.{◌≡◌, ◌++◌, length}
use Rattle.sr_session.proofs.transaction.copied.Given as goal

-- the copies and what is left
abbrev pub invariant-changes : goal.invariant-changes
invariant-changes l = l.items.items ++ l.left ≡ l.changes

abbrev pub decreases-changes : goal.decreases-changes
decreases-changes l = length l.left
