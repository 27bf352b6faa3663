-- What entries that were committed made of a value, said of the two values alone.
use Rattle.std.specs.Prelude.{◌≡◌, List}
use Rattle.sr_book.specs.Entries.{Name}
use Rattle.sr_book.specs.Histories.{book_from}
use Rattle.sr_database_files.specs.Books.{book_in}
use Rattle.sr_database_history.specs.Fitting.{stored_from}
use Rattle.sr_database_history.specs.Folds.{state_from, end_from, sees}
use Rattle.sr_database_history.specs.Recorded.{Recorded}
use Rattle.sr_database.specs.Databases.{ArePending}
use Rattle.sr_database.specs.Views.{View, committed}

-- the value advances by these entries: each fits what those before it leave; state, books and end are what they come to from those of the old value;
-- what is pending follows, where it followed before; and the log begins where it did
pub record Advances (old new : View) (entries : List Recorded) : Type 0 where
  pub fit : stored_from (committed old) old.log.end entries
  pub state : committed new ≡ state_from (committed old) entries
  pub books : (user : Name) → book_in new.books user ≡ book_from sees user (book_in old.books user) entries
  pub pending : ArePending old.catalog old.rows old.pending → ArePending new.catalog new.rows new.pending
  pub base_catalog : new.base_catalog ≡ old.base_catalog
  pub base : new.log.base ≡ old.log.base
  pub end : new.log.end ≡ end_from old.log.end entries
