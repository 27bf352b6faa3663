use Rattle.sr_survey_brief.proofs.Briefs.{briefly_none, briefly_one, briefly_all}
use Rattle.sr_survey_brief.proofs.reading.so_many_in_brief.Goals as goal

pub loop-init : goal.loop-init
loop-init c = rw c.in_ok-items.ensures.empty (briefly_none c.args.count c.args.bytes.now)

pub loop-preserved : goal.loop-preserved
loop-preserved c = rw c.in_ok-add.ensures.added (briefly_one c.args.count c.loop.counter c.args.bytes.now c.loop.rest.now c.in_ok-judged.after.now c.loop.items.items c.in_ok-judged.judged c.loop-test.true c.in_ok-judged.ensures.brief c.loop.invariant)

pub returns : goal.returns
returns c = record { brief = briefly_all c.args.count c.loop.counter c.args.bytes.now c.loop.rest.now c.loop.items.items c.loop-test.false c.loop.invariant }
