use Rattle.std.proofs.Common.{sym, ◌∙◌}
use Rattle.sr_survey.proofs.Taken.{ends_touched, ends_quiet}
use Rattle.sr_survey.proofs.survey.Survey.go_on.Goals as goal

pub returns-then-runs : goal.returns-then-runs
returns-then-runs c = record { ends = ends_touched c.args.self.now c.touch_all.new.self c.args.entry.now c.args.at (sym c.runs.ensures.runs ∙ c.if-runs.true) c.touch_all.ensures.touched }

pub returns : goal.returns
returns c = record { ends = ends_quiet c.args.self.now c.args.entry.now c.args.at (sym c.runs.ensures.runs ∙ c.if-runs.false) }
