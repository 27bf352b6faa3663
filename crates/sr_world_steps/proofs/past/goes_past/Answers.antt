use Rattle.sr_world_steps.proofs.Chained.{left_rest}
use Rattle.sr_world_steps.proofs.Ahead.{past_rest}
use Rattle.sr_world_steps.proofs.past.goes_past.Goals as goal

pub messages-preserved : goal.messages-preserved
messages-preserved c =
    let messages = c.args.messages.now in
    let left = c.messages.left.now in
    let rest = c.in-Some.rest.now in
    let m = c.in-Some.message.now in
    record {
      still = past_rest messages left rest c.args.sender.now c.args.receiver.now c.args.taken m c.is_past.result c.messages.invariant.still c.in-Some.ensures.cases.0
          c.is_past.ensures.past c.if-is_past.false;
      are = left_rest messages left rest m c.messages.invariant.are c.in-Some.ensures.cases.0;
    }
