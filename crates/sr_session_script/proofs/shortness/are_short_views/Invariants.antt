use Rattle.std.proofs.Common.{◌↔◌, length}
use Rattle.std.specs.List.{AllByRecursion}
use Rattle.sr_session_script.specs.Inner.Synced.{IsShortView}
use Rattle.sr_session_script.proofs.shortness.are_short_views.Given as goal

-- all are short where those that are left are
abbrev pub invariant-views : goal.invariant-views
invariant-views l = AllByRecursion IsShortView l.left ↔ AllByRecursion IsShortView l.views

abbrev pub decreases-views : goal.decreases-views
decreases-views l = length l.left
