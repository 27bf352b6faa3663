use Rattle.sr_survey_brief.proofs.Briefs.{taken_brief}
use Rattle.sr_survey_brief.proofs.reading.taken_in_brief.Goals as goal

pub returns : goal.returns
returns c = record {
  brief = taken_brief c.args.bytes.now c.in_ok-tag.behind.now c.in_ok-user.placed.now c.in_ok-at.judged.now c.in_ok-user.user c.in_ok-tag.tag.now c.in_ok-at.at c.in_ok-ops.ops c.in_ok-tag.ensures.cases.0 c.if-tag-ne-TAKEN.false
      c.in_ok-user.ensures.part c.in_ok-at.ensures.part c.in_ok-ops.ensures.brief;
}
