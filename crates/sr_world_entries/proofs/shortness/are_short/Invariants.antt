use Rattle.std.proofs.Common.{◌↔◌, length}
use Rattle.std.specs.List.{AllByRecursion}
use Rattle.sr_logform.specs.Outcomes.{IsShortChange}
use Rattle.sr_world_entries.proofs.shortness.are_short.Given as goal

-- all are short where those that are left are
abbrev pub invariant-changes : goal.invariant-changes
invariant-changes l = AllByRecursion IsShortChange l.left ↔ AllByRecursion IsShortChange l.changes

abbrev pub decreases-changes : goal.decreases-changes
decreases-changes l = length l.left
