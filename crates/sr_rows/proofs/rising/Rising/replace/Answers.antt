use Rattle.std.proofs.Common.{Some}
use Rattle.sr_rows.proofs.Searching.{get_placed, get_missed, order_placed, map_placed}
use Rattle.sr_rows.proofs.rising.Rising.replace.Goals as goal

pub invariant_of-self : goal.invariant_of-self
invariant_of-self c =
    order_placed c.as_slice.result.now c.self.inside.places.items c.as_slice.ensures.value c.self.invariant c.args.self.now c.self.view_is c.args.key.now
    c.in-Ok.at (Some c.args.row) c.put_at.new.places.items c.in-Ok.ensures.ends c.put_at.ensures.set

pub returns-in-Ok-clause-before : goal.returns-in-Ok-clause-before
returns-in-Ok-clause-before c =
    get_placed c.as_slice.result.now c.self.inside.places.items c.as_slice.ensures.value c.self.invariant c.args.self.now c.self.view_is c.args.key.now
    c.in-Ok.at c.put_at.result c.in-Ok.ensures.ends c.put_at.ensures.before

pub returns-in-Ok-clause-set : goal.returns-in-Ok-clause-set
returns-in-Ok-clause-set c =
    map_placed c.as_slice.result.now c.self.inside.places.items c.as_slice.ensures.value c.self.invariant c.args.self.now c.self.view_is c.args.key.now
    c.in-Ok.at (Some c.args.row) c.put_at.new.places.items c.in-Ok.ensures.ends c.put_at.ensures.set

pub returns-in-Err-clause-before : goal.returns-in-Err-clause-before
returns-in-Err-clause-before c =
    get_missed c.as_slice.result.now c.self.inside.places.items c.as_slice.ensures.value c.self.invariant c.args.self.now c.self.view_is c.args.key.now c.in-Err.field-0 c.in-Err.ensures.ends
