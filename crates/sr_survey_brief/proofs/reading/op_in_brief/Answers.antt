use Rattle.sr_survey_brief.proofs.Briefs.{op_passed}
use Rattle.sr_survey_brief.proofs.reading.op_in_brief.Goals as goal

pub returns-then-tag-eq-INSERTS : goal.returns-then-tag-eq-INSERTS
returns-then-tag-eq-INSERTS c = record {
  brief = op_passed c.args.bytes.now c.in_ok-tag.rest.now c.in_ok-op.left.now c.in_ok-tag.tag.now c.in_ok-op.op c.in_ok-tag.ensures.cases.0 c.if-tag-eq-INSERTS.true c.in_ok-op.ensures.passed c.in_ok-op.ensures.behind;
}
