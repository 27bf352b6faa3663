use Rattle.std.proofs.Common.{◌≡◌, ◌-◌}
use Rattle.sr_base.specs.Reading.{items_at}
use Rattle.sr_base.proofs.Loop.{with_front}
use Rattle.sr_base.proofs.field_lists.items_of.Given as goal

abbrev pub invariant-loop : goal.invariant-loop
invariant-loop g l = with_front l.items.items (items_at g.T.Field.reading (l.count - l.counter) l.rest) ≡ items_at g.T.Field.reading l.count l.bytes
