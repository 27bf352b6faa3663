use Rattle.std.proofs.lemmas.Result.{err_from_is_err_and}
use Rattle.std.proofs.Common.{List, ℕ}
use Rattle.sr_base.specs.declared.value.Value.{Value}
use Rattle.sr_base.specs.Fields.{name_at}
use Rattle.sr_base.specs.Inner.Fields.{pair_at}
use Rattle.sr_base.specs.Reading.{Read, items_at}
use Rattle.sr_base.proofs.Loop.{goes_on, ends, is_done}
use Rattle.sr_logform.specs.Inner.Ops.{present_at}
use Rattle.sr_logform.proofs.values.present_items.Goals as goal

abbrev item : List ℕ → Read (List ℕ × Value)
item = pair_at name_at present_at

pub returns-in_err-name : goal.returns-in_err-name
returns-in_err-name c =
    let p = err_from_is_err_and c.from_residual.result c.from_residual.ensures.1 in
    let all = items_at item c.args.count c.args.bytes.now in
    rw (p.1, p.2) (ends item c.in_err-name.field-0.0 c.loop.items.items c.args.count c.loop.counter c.loop.rest.now all
    c.loop-test.true c.in_err-name.ensures.exact c.loop.invariant)

pub loop-preserved : goal.loop-preserved
loop-preserved c =
    let all = items_at item c.args.count c.args.bytes.now in
    rw (c.in_ok-push.ensures.items, c.into_value.ensures) (goes_on item c.loop.items.items c.args.count c.loop.counter c.loop.rest.now
    (c.in_ok-name.name, c.in_ok-name.value) c.in_ok-name.after.now all c.loop-test.true c.in_ok-name.ensures.exact c.loop.invariant)

pub returns : goal.returns
returns c =
    let all = items_at item c.args.count c.args.bytes.now in
    is_done item c.loop.items.items c.args.count c.loop.counter c.loop.rest.now all c.loop-test.false c.loop.invariant
