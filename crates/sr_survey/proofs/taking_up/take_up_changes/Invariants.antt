use Rattle.std.proofs.Common.{◌≡◌, length}
use Rattle.sr_survey.proofs.taking_up.take_up_changes.Given as goal

abbrev pub invariant-changes : goal.invariant-changes
invariant-changes l = l.catalog ≡ l.fn.catalog

abbrev pub decreases-changes : goal.decreases-changes
decreases-changes l = length l.left
