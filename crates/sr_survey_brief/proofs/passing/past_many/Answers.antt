use Rattle.sr_logform.specs.Ops.{column_spelling}
use Rattle.sr_survey_brief.specs.Inner.Passing.{IsColumn}
use Rattle.sr_survey_brief.proofs.Past.{passes_none, passes_one, passes_all}
use Rattle.sr_survey_brief.proofs.passing.past_many.Goals as goal

pub loop-init : goal.loop-init
loop-init c = passes_none IsColumn column_spelling c.args.count c.args.bytes.now

pub loop-preserved : goal.loop-preserved
loop-preserved c = passes_one IsColumn column_spelling c.args.count c.loop.counter c.args.bytes.now c.loop.rest.now c.in_ok-after.after.now c.loop-test.true c.in_ok-after.ensures.past c.loop.invariant

pub returns : goal.returns
returns c = record { past = passes_all IsColumn column_spelling c.args.count c.loop.counter c.args.bytes.now c.loop.rest.now c.loop-test.false c.loop.invariant }
