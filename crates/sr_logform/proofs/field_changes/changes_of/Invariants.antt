use Rattle.std.proofs.Common.{◌≡◌, ◌-◌}
use Rattle.sr_base.specs.Reading.{items_at}
use Rattle.sr_base.proofs.Loop.{with_front}
use Rattle.sr_logform.specs.Inner.Outcomes.{change_at}
use Rattle.sr_logform.proofs.field_changes.changes_of.Given as goal

abbrev pub invariant-loop : goal.invariant-loop
invariant-loop l = with_front l.changes.items (items_at change_at (l.count - l.counter) l.rest) ≡ items_at change_at l.count l.bytes
