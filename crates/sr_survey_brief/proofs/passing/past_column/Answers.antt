use Rattle.sr_survey_brief.proofs.Past.{column_past}
use Rattle.sr_survey_brief.proofs.passing.past_column.Goals as goal

pub returns : goal.returns
returns c = record { past = column_past c.args.bytes.now c.in_ok-rest.rest.now c.in_ok-left.left.now c.in_ok-rest.ensures.past c.in_ok-left.ensures.past }
