use Rattle.sr_survey_brief.proofs.Past.{text_past}
use Rattle.sr_survey_brief.proofs.passing.past_text.Goals as goal

pub returns : goal.returns
returns c = record { past = text_past c.args.bytes.now c.in_ok-size.rest.now c.in_ok-left.left.now c.in_ok-size.size c.in_ok-size.ensures.part c.in_ok-left.ensures.behind }
