use Rattle.sr_survey_brief.proofs.Past.{columns_past}
use Rattle.sr_survey_brief.proofs.passing.past_columns.Goals as goal

pub returns : goal.returns
returns c = record { past = columns_past c.args.bytes.now c.in_ok-count.rest.now c.in_ok-left.left.now c.in_ok-count.count c.in_ok-count.ensures.part c.in_ok-left.ensures.past }
