-- Files that stand for a history, where the log goes on to hold what partners still need.
use Rattle.std.specs.Prelude.{ℕ, List}
use Rattle.sr_book.specs.Entries.{Name}
use Rattle.sr_database_history.specs.Recorded.{Recorded}
use Rattle.sr_database_meaning.specs.Standing.{StandsFor}
use Rattle.sr_send_needs.specs.Needs.{KeepsNeeds}
use Rattle.sr_site.specs.Files.{Files}

-- files stand for this history, and of what it gives each user all that he has not confirmed lies past where the log in force begins
pub record StandsKeeping (publisher : Name) (es : List Recorded) (files : Files) : Type 0 where
  pub base : ℕ
  pub stands : StandsFor publisher es base files
  pub needs : KeepsNeeds publisher es base
