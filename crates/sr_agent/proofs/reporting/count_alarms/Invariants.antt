use Rattle.std.proofs.Common.{◌≡◌, ◌+◌, length}
use Rattle.sr_agent.specs.Lines.{alarms, report_lines}
use Rattle.sr_agent.proofs.reporting.count_alarms.Given as goal

-- those that were counted, and those of the reports that are left
abbrev pub invariant-reports : goal.invariant-reports
invariant-reports l = l.count + alarms (report_lines l.left) ≡ alarms (report_lines l.fn.reports)

abbrev pub decreases-reports : goal.decreases-reports
decreases-reports l = length l.left
