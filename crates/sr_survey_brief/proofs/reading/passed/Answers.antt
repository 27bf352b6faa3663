use Rattle.std.proofs.Common.{refl}
use Rattle.sr_survey_brief.proofs.Briefs.{insert_passed}
use Rattle.sr_survey_brief.proofs.reading.passed.Goals as goal

pub returns-clause-behind : goal.returns-clause-behind
returns-clause-behind c = insert_passed c.args.bytes.now c.in_ok-rest.rest.now c.in_ok-left.left.now c.in_ok-rest.ensures.past c.in_ok-left.ensures.past
