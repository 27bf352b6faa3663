-- The database before its last entry.
-- Here is what no contract of the program says by itself.
use Rattle.std.specs.Prelude.{◌≡◌, List, [], ◌∷◌, ◌++◌}
use Rattle.sr_book.specs.Entries.{Name}
use Rattle.sr_database_history.specs.Recorded.{Recorded}
use Rattle.sr_site.specs.Seen.{Seen}
use Rattle.sr_database.specs.Databases.{IsDatabase}
use Rattle.sr_database.specs.Views.{View}

-- a history ends with an entry, and of the history before it the value was the database
pub record WasWithout (view : View) (publisher : Name) (es : List Recorded) (r : Recorded) (seen : Seen) : Type 0 where
  pub first : List Recorded
  pub is : es ≡ first ++ r ∷ []
  pub database : IsDatabase view publisher first seen
