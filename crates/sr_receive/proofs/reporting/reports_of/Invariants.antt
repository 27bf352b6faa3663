use Rattle.std.proofs.Common.{◌≡◌, ◌++◌, length}
use Rattle.sr_receive.specs.Reports.{outcome_reports}
use Rattle.sr_receive.proofs.reporting.reports_of.Given as goal

-- the reports so far and those of the ops that are left are all
abbrev pub invariant-ops : goal.invariant-ops
invariant-ops l = outcome_reports l.user l.at 1 l.ops ≡ l.reports.items ++ outcome_reports l.user l.at l.number l.left

abbrev pub decreases-ops : goal.decreases-ops
decreases-ops l = length l.left
