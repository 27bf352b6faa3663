use Rattle.sr_survey_brief.proofs.Briefs.{ops_brief}
use Rattle.sr_survey_brief.proofs.reading.ops_in_brief.Goals as goal

pub returns : goal.returns
returns c = record { brief = rw c.from_vec.ensures.items (ops_brief c.args.bytes.now c.in_ok-count.rest.now c.in_ok-count.count c.in_ok-items.items.items c.in_ok-count.ensures.part c.in_ok-items.ensures.brief) }
