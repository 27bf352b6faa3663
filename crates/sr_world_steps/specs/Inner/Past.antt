-- Whole windows that go on past what was taken.
use Rattle.std.specs.Prelude.{◌≡◌, ℕ, ◌<◌, ◌≤◌, List, Contains}
use Rattle.sr_book.specs.Entries.{Name}
use Rattle.sr_msgform.specs.declared.message.Message.{Message}
use Rattle.sr_world_steps.specs.Inner.Leading.{IsWhole}

-- the message is of a whole window from one database to another that begins no later than at an offset, and ends past it
pub record GoesPast (messages : List Message) (sender receiver : Name) (taken : ℕ) (m : Message) : Type 0 where
  pub sent_by : m.from ≡ sender
  pub sent_to : m.to ≡ receiver
  pub begins : m.prev.0 ≤ taken
  pub ends : taken < m.upto.0
  pub whole : IsWhole messages m

-- such a message is among these
pub record SomePast (messages left : List Message) (sender receiver : Name) (taken : ℕ) : Type 0 where
  pub message : Message
  pub among : Contains left message
  pub goes : GoesPast messages sender receiver taken message
