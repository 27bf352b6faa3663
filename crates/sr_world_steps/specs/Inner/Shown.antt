-- A world as it is shown: the log of each database, and the messages.
use Rattle.std.specs.Prelude.{◌≡◌, List, map}
use Rattle.sr_book.specs.Entries.{Name}
use Rattle.sr_database_history.specs.Recorded.{Recorded}
use Rattle.sr_msgform.specs.declared.message.Message.{Message}
use Rattle.sr_world.specs.Real.{IsGoodWorld}
use Rattle.sr_world_model.specs.Worlds.{World}
use Rattle.sr_world_steps.specs.Inner.Logs.{logged_from}
use Rattle.sr_world_steps.specs.Inner.Places.{History}

pub record Shown : Type 0 where
  pub histories : List History
  pub messages : List Message

-- a history with its entries as its log shows them
abbrev pub logged : Name × List Recorded → History
logged h = (h.0, logged_from 0 h.1)

-- a good world, and what is shown of it
pub record Shows (w : World Recorded) (shown : Shown) : Type 0 where
  pub histories : map logged w.histories ≡ shown.histories
  pub messages : w.messages ≡ shown.messages
  pub good : IsGoodWorld w

-- what is shown is a good world
pub record IsShown (shown : Shown) : Type 0 where
  pub world : World Recorded
  pub shows : Shows world shown

-- the names of the databases
abbrev pub names_of : Shown → List Name
names_of shown = map (λ h. h.0) shown.histories
