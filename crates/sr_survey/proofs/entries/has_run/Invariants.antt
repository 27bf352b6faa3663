use Rattle.std.proofs.Common.{◌≡◌, length}
use Rattle.std.specs.List.{list_any}
use Rattle.sr_survey.specs.Inner.Concerning.{has_run}
use Rattle.sr_survey.proofs.entries.has_run.Given as goal

abbrev pub invariant-ops : goal.invariant-ops
invariant-ops l = list_any has_run l.ops ≡ list_any has_run l.left

abbrev pub decreases-ops : goal.decreases-ops
decreases-ops l = length l.left
