use Rattle.std.proofs.Common.{◌↔◌, length}
use Rattle.std.specs.List.{AllByRecursion}
use Rattle.sr_database_history.specs.Fitting.{IsInsertion}
use Rattle.sr_database_fold.proofs.conflicts.are_insertions.Given as goal

abbrev pub invariant-changes : goal.invariant-changes
invariant-changes l = AllByRecursion IsInsertion l.changes ↔ AllByRecursion IsInsertion l.left

abbrev pub decreases-changes : goal.decreases-changes
decreases-changes l = length l.left
