use Rattle.sr_survey_brief.proofs.Briefs.{judged_brief}
use Rattle.sr_survey_brief.proofs.reading.judged_in_brief.Goals as goal

pub returns : goal.returns
returns c = record { brief = judged_brief c.args.bytes.now c.in_ok-op.rest.now c.in_ok-outcome.rest.now c.in_ok-op.op c.in_ok-outcome.outcome c.in_ok-op.ensures.brief c.in_ok-outcome.ensures.part }
