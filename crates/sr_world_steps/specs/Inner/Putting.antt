-- Which messages a database may put, by its log.
use Rattle.std.specs.Prelude.{◌↔◌, ℕ, ◌≤◌, Bool, List, IsTrue}
use Rattle.sr_book.specs.Entries.{Name}
use Rattle.sr_book.specs.declared.book.Book.{Book}
use Rattle.sr_database_history.specs.Recorded.{Recorded}
use Rattle.sr_msgform.specs.Messages.{IsMessage}
use Rattle.sr_msgform.specs.declared.message.Message.{Message}
use Rattle.sr_scan.specs.Given.{given_of}
use Rattle.sr_world.specs.Real.{layers, LawfulHistory}
use Rattle.sr_world_model.specs.Truth.{IsTrueOf}
use Rattle.sr_world_steps.specs.Inner.Logs.{IsLog}
use Rattle.sr_world_steps.specs.Inner.Places.{Log}
use Rattle.sr_world_steps.specs.Inner.Scanned.{in_window}
use Rattle.sr_world_steps.specs.Inner.Windows.{Carries}

-- a lawful history, as its log shows it
pub record IsLawfulLog (d : Name) (rs : List Recorded) (log : Log) : Type 0 where
  pub lawful : LawfulHistory d rs
  pub shown : IsLog d rs log

-- the message has a spelling, and is true of the history
pub record MayPut (d : Name) (rs : List Recorded) (m : Message) : Type 0 where
  pub spelled : IsMessage m
  pub is_true : IsTrueOf layers d rs m

-- the message ends within a history, and says no more than the book of its receiver has
pub record IsBacked (book : Book) (end : ℕ) (m : Message) : Type 0 where
  pub stands : m.upto.0 ≤ end
  pub confirm : m.confirm.0 ≤ book.log_received
  pub ask_offset : m.ask_offset.0 ≤ book.log_received
  pub ask_count : m.ask_count ≤ book.rereceive_count
  pub resend_count : m.resend_count ≤ book.resend_count

-- a log of some lawful history
unfoldable pub HasLawfulLog : Name → Log → Type 0
HasLawfulLog d log = (rs : List Recorded) × IsLawfulLog d rs log

-- it was found out whether the message carries what the history that a log shows gives its receiver
unfoldable pub TellsCarried : Name → Log → Message → Bool → Type 0
TellsCarried d log m carried = (rs : List Recorded) → IsLawfulLog d rs log
    → (IsTrue carried ↔ Carries (in_window m.prev.0 m.upto.0 (given_of d rs m.to)) m)

-- and whether it may be put
unfoldable pub TellsPut : Name → Log → Message → Bool → Type 0
TellsPut d log m may = (rs : List Recorded) → IsLawfulLog d rs log → (IsTrue may ↔ MayPut d rs m)
