use Rattle.sr_world_steps.proofs.Chained.{left_rest, still_past}
use Rattle.sr_world_steps.proofs.chains.covered_to.Goals as goal

pub messages-preserved : goal.messages-preserved
messages-preserved c =
    let messages = c.args.messages.now in
    let left = c.messages.left.now in
    let rest = c.in-Some.rest.now in
    let piece = c.in-Some.piece.now in
    record {
      still = still_past messages left rest piece c.args.message.now c.args.place c.covers.result c.messages.invariant.still c.in-Some.ensures.cases.0 c.covers.ensures.covers c.if-covers.false;
      are = left_rest messages left rest piece c.messages.invariant.are c.in-Some.ensures.cases.0;
    }
