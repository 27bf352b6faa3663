use Rattle.sr_survey.proofs.Officed.{touched_all}
use Rattle.sr_survey.proofs.survey.Survey.touch_all.Goals as goal

pub returns : goal.returns
returns c = record { touched = touched_all c.args.self.now c.args.at c.later-self.result c.later-self.ensures.later }
