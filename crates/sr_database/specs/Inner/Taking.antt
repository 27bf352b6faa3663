-- What an entry does to a value.
use Rattle.std.specs.Prelude.{◌≡◌, ⊤, List}
use Rattle.sr_database_files.specs.Books.{BookMap}
use Rattle.sr_database_fold.specs.Inner.Readings.{state_in}
use Rattle.sr_database_history.specs.Folds.{State, next}
use Rattle.sr_database_history.specs.Recorded.{Recorded, entry_of}
use Rattle.sr_database_replay.specs.Inner.Books.{BooksFollow}
use Rattle.sr_logform.specs.declared.change.Change.{Change}
use Rattle.sr_logform.specs.declared.entry.Entry.{Entry}
use Rattle.sr_logform.specs.declared.entry.Entry.TheVariants as entries
use Rattle.sr_rows.specs.Marks.{Marked}
use Rattle.sr_rows.specs.Inner.Steps.{at_mark}
use Rattle.sr_catalog_schema.specs.Catalogs.{Lists}
use Rattle.sr_database.specs.Inner.Commits.{Follows}

-- what the committed entries come to
abbrev pub at_last_commit : Lists → Marked → State
at_last_commit catalog rows = record { catalog = catalog; rows = rows.marked }

-- an entry of another kind than Own
abbrev pub IsNoOwn : Entry → Type 0
IsNoOwn (entries.Own changes) = ⊥
IsNoOwn (entries.From user at ops) = ⊤
IsNoOwn (entries.Ddl text) = ⊤
IsNoOwn (entries.Sync user tables) = ⊤
IsNoOwn (entries.Pass users only text changes) = ⊤
IsNoOwn (entries.Note user note) = ⊤

-- whichever recorded one the entry is of, each book is the one behind it
abbrev pub TakesBooks : BookMap → BookMap → Entry → Type 0
TakesBooks old new entry = (r : Recorded) → entry_of r ≡ entry → BooksFollow old new r

-- of whichever recorded one that may follow the entry is, catalog and rows are what is behind it, at which the mark stands
pub record TakesState (catalog new_catalog : Lists) (rows new_rows : Marked) (pending : List Change) (entry : Entry) : Type 0 where
  pub effect : (r : Recorded) → Follows (at_last_commit catalog rows) pending entry r → state_in new_catalog new_rows ≡ next (at_last_commit catalog rows) r
  pub fresh : new_rows ≡ at_mark new_rows.rows

-- catalog, rows and books are what is behind it
pub record Takes (catalog new_catalog : Lists) (rows new_rows : Marked) (books new_books : BookMap) (pending : List Change) (entry : Entry) : Type 0 where
  pub state : TakesState catalog new_catalog rows new_rows pending entry
  pub books_are : TakesBooks books new_books entry

-- catalog and rows are as they were
pub record StaysState (catalog new_catalog : Lists) (rows new_rows : Marked) : Type 0 where
  pub catalog_is : new_catalog ≡ catalog
  pub rows_are : new_rows ≡ rows

-- catalog, rows and books are as they were
pub record StaysAll (catalog new_catalog : Lists) (rows new_rows : Marked) (books new_books : BookMap) : Type 0 where
  pub state : StaysState catalog new_catalog rows new_rows
  pub books_are : new_books ≡ books
