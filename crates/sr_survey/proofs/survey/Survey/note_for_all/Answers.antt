use Rattle.sr_survey.proofs.Noting.{all_noted}
use Rattle.sr_survey.proofs.survey.Survey.note_for_all.Goals as goal

pub returns : goal.returns
returns c = record { noted = all_noted c.args.self.now c.touch_all.new.self c.args.statement.now c.args.at c.requires.for_all c.touch_all.ensures.touched }
