use Rattle.sr_survey.proofs.Noting.{started}
use Rattle.sr_survey.proofs.survey.Survey.start.Goals as goal

pub returns : goal.returns
returns c = record { noted = started c.args.self.now c.serve.new.self c.touch.new.self c.args.rule.now c.args.at c.in_ok-serve.ensures.served c.in_ok-touch.ensures.touched }
