use Rattle.std.proofs.Common.{List, ap}
use Rattle.sr_receive_gather.specs.declared.report.Report.{Report}
use Rattle.sr_agent.specs.Lines.{line_text, lines_text, report, report_lines}
use Rattle.sr_agent.proofs.Additions.{cut_short, whatever}
use Rattle.sr_agent.proofs.reporting.add_reports.Goals as goal

pub returns-in_err-add_report-clause-failed : goal.returns-in_err-add_report-clause-failed
returns-in_err-add_report-clause-failed g c =
    whatever _ c.from_residual.result
    (cut_short (lines_text (report_lines c.args.reports.now)) (lines_text (report_lines c.reports.left.now)) (line_text (report c.in-Some.report.now)) (lines_text (report_lines c.in-Some.rest.now)) _ _ _ _ _ c.reports.invariant
    (ap (λ (l : List Report). lines_text (report_lines l)) c.in-Some.ensures.cases.0) c.in_err-add_report.ensures.failed)
