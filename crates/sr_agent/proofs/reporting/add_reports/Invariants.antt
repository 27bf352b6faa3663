use Rattle.std.proofs.Common.{length}
use Rattle.sr_agent.specs.Inner.Steps.{AddedSome}
use Rattle.sr_agent.specs.Lines.{lines_text, report_lines}
use Rattle.sr_agent.proofs.reporting.add_reports.Given as goal

-- the lines so far were added
abbrev pub invariant-reports : goal.invariant-reports
invariant-reports g l = AddedSome (lines_text (report_lines l.fn.reports)) (lines_text (report_lines l.left)) l.fn.held.items l.held.items (g.O.Sink.seen l.fn.sink) (g.O.Sink.seen l.sink)

abbrev pub decreases-reports : goal.decreases-reports
decreases-reports g l = length l.left
