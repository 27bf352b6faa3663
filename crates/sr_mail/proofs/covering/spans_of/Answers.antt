use Rattle.sr_mail.proofs.Looping.{span_item}
use Rattle.sr_mail.proofs.covering.spans_of.Goals as goal

pub loop-number-preserved : goal.loop-number-preserved
loop-number-preserved c =
    span_item c.args.pieces.now c.loop-number.number c.index-pieces-number.result c.loop-number.spans.items c.push.new.self.items c.loop-number-test.true c.index-pieces-number.is c.loop-number.invariant c.in_ok-push.ensures.items
