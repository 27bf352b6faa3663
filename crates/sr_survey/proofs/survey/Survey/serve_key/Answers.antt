use Rattle.sr_survey.proofs.Officed.{served_key}
use Rattle.sr_survey.proofs.survey.Survey.serve_key.Goals as goal

pub returns : goal.returns
returns c = record { served = served_key c.args.self.now c.begin.new.self c.add_key.new.offices c.args.user.now c.args.key.now c.in_ok-begin.ensures.begun c.in_ok-add_key.ensures.put }
