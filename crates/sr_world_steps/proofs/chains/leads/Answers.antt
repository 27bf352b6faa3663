use Rattle.std.proofs.Common.{refl}
use Rattle.sr_world_steps.proofs.Chained.{leading_on, leading_smaller, leading_all}
use Rattle.sr_world_steps.proofs.chains.leads.Goals as goal

pub places-smaller : goal.places-smaller
places-smaller c =
    leading_smaller c.args.messages.now c.args.sender.now c.args.receiver.now c.places.reached.items c.reach_on.new.reached.items c.places.next c.in-Some.place
    c.in-Some.ensures.some.0 c.in_ok-reach_on.ensures.on

pub places-preserved : goal.places-preserved
places-preserved c =
    leading_on c.args.messages.now c.args.sender.now c.args.receiver.now c.args.from c.places.reached.items c.reach_on.new.reached.items c.places.next c.in-Some.place
    c.places.invariant c.in-Some.ensures.some.0 c.in-Some.ensures.some.1 c.in_ok-reach_on.ensures.on

pub returns : goal.returns
returns c = record {
  leads = leading_all c.args.messages.now c.args.sender.now c.args.receiver.now c.args.from c.places.reached.items c.places.next c.args.to c.is_reached-leads.result
      c.places.invariant (c.in_default.ensures.none refl) c.is_reached-leads.ensures;
}
