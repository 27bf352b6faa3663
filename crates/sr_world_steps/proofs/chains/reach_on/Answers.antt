use Rattle.sr_world_steps.proofs.Reaching.{reach_step}
use Rattle.sr_world_steps.proofs.Chained.{left_head, left_rest}
use Rattle.sr_world_steps.proofs.chains.reach_on.Goals as goal

pub messages-preserved : goal.messages-preserved
messages-preserved c =
    let messages = c.args.messages.now in
    let left = c.messages.left.now in
    let rest = c.in-Some.rest.now in
    let m = c.in-Some.message.now in
    record {
      reaches = reach_step messages c.args.sender.now c.args.receiver.now c.args.place c.args.reached.now.items c.messages.reached.items c.step_on.new.reached.items left rest m
          c.messages.invariant.reaches c.in-Some.ensures.cases.0 (left_head messages left rest m c.messages.invariant.are c.in-Some.ensures.cases.0) c.in_ok-step_on.ensures.on;
      are = left_rest messages left rest m c.messages.invariant.are c.in-Some.ensures.cases.0;
    }
