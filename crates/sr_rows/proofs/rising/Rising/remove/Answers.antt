use Rattle.sr_rows.proofs.Searching.{order_taken, map_taken, map_missed}
use Rattle.sr_rows.proofs.rising.Rising.remove.Goals as goal

pub invariant_of-self : goal.invariant_of-self
invariant_of-self c =
    order_taken c.as_slice.result.now c.self.inside.places.items c.as_slice.ensures.value c.self.invariant c.args.self.now c.self.view_is c.args.key.now
    c.in-Ok.at c.remove.new.self.items c.remove.ensures.items

pub returns-in-Ok : goal.returns-in-Ok
returns-in-Ok c = record {
  removed = map_taken c.as_slice.result.now c.self.inside.places.items c.as_slice.ensures.value c.self.invariant c.args.self.now c.self.view_is c.args.key.now
      c.in-Ok.at c.remove.new.self.items c.in-Ok.ensures.ends c.remove.ensures.items;
}

pub returns-in_default : goal.returns-in_default
returns-in_default c = record {
  removed = map_missed c.as_slice.result.now c.self.inside.places.items c.as_slice.ensures.value c.self.invariant c.args.self.now c.self.view_is c.args.key.now
      c.in_default.field-0 c.in_default.ensures.ends;
}
