-- What was read so far, and then what is read, is what is read of all.
use Rattle.std.proofs.Common.{◌≡◌, ◌-◌}
use Rattle.sr_base.specs.Fields.{name_at}
use Rattle.sr_base.specs.Inner.Fields.{pair_at}
use Rattle.sr_base.specs.Reading.{items_at}
use Rattle.sr_base.proofs.Loop.{with_front}
use Rattle.sr_logform.specs.Inner.Ops.{present_at}
use Rattle.sr_logform.proofs.values.present_items.Given as goal

abbrev pub invariant-loop : goal.invariant-loop
invariant-loop l =
    let item = pair_at name_at present_at in
    with_front l.items.items (items_at item (l.count - l.counter) l.rest) ≡ items_at item l.count l.bytes
