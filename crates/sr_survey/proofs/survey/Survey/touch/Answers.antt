use Rattle.sr_survey.proofs.Officed.{touched_user}
use Rattle.sr_survey.proofs.survey.Survey.touch.Goals as goal

pub returns : goal.returns
returns c = record { touched = touched_user c.args.self.now c.move_since.new.offices c.args.user.now c.args.at c.in_ok-move_since.ensures.put }
