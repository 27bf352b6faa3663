-- Which history a database is of, as a value and on its site.
use Rattle.std.specs.Prelude.{◌≡◌, ℕ, List, [], ◌++◌}
use Rattle.std.specs.List.{AllByRecursion}
use Rattle.sr_base.specs.Fields.{IsName}
use Rattle.sr_book.specs.Entries.{Name}
use Rattle.sr_database_files.specs.Books.{book_in, listed}
use Rattle.sr_exec_dml.specs.Applying.{applied}
use Rattle.sr_exec_dml.specs.FittingChanges.{ChangesFit}
use Rattle.sr_book.specs.Histories.{book_from}
use Rattle.sr_database_history.specs.Fitting.{Stored, stored_from}
use Rattle.sr_database_history.specs.Folds.{state_from, state_of, end_from, end_of, sees, books_of}
use Rattle.sr_database_history.specs.Recorded.{Recorded}
use Rattle.sr_logform.specs.Outcomes.{IsShortChange}
use Rattle.sr_logform.specs.declared.change.Change.{Change}
use Rattle.sr_rows.specs.Marks.{Marked}
use Rattle.sr_catalog_schema.specs.Catalogs.{Lists}
use Rattle.sr_site.specs.Files.{Files}
use Rattle.sr_site.specs.Images.{IsSettled}
use Rattle.sr_site.specs.Seen.{Seen}
use Rattle.sr_database_meaning.specs.Generations.{log_of}
use Rattle.sr_database_meaning.specs.Standing.{IsSnapshotAt, StandsFor, StandFrom}
use Rattle.sr_snapshot.specs.Beginnings.{Beginning, IsBeginning}
use Rattle.sr_database.specs.Views.{View}

-- changes are pending: they fit the rows of the last commit, at which the mark stands, and are applied to them; where there are none, nothing
-- was done to the rows since
pub record ArePending (catalog : Lists) (rows : Marked) (pending : List Change) : Type 0 where
  pub fit : ChangesFit catalog rows.marked pending
  pub short : AllByRecursion IsShortChange pending
  pub rows_are : rows.rows ≡ applied catalog pending rows.marked
  pub still : pending ≡ [] → rows.trail ≡ []

-- a log begins at this base: it is the end of the first entries of the history, of which a snapshot may be kept, and this catalog is what they come to
pub record IsBased (base : ℕ) (catalog : Lists) (publisher : Name) (es : List Recorded) : Type 0 where
  pub done : List Recorded
  pub left : List Recorded
  pub parts : es ≡ done ++ left
  pub base_is : base ≡ end_of done
  pub catalog_is : catalog ≡ (state_of publisher done).catalog
  pub snapshot : List ℕ
  pub is_snapshot : IsSnapshotAt publisher done snapshot

-- the value is that of a history: catalog, rows and books are what it comes to, pending changes stand in the rows alone, and the log begins behind some
-- of its entries and ends where it does
pub record IsOf (view : View) (publisher : Name) (es : List Recorded) : Type 0 where
  pub name : IsName publisher
  pub stored : Stored publisher es
  pub catalog : view.catalog ≡ (state_of publisher es).catalog
  pub marked : view.rows.marked ≡ (state_of publisher es).rows
  pub pending : ArePending view.catalog view.rows view.pending
  pub books : (user : Name) → book_in view.books user ≡ books_of user es
  pub based : IsBased view.log.base view.base_catalog publisher es
  pub end : view.log.end ≡ end_of es

-- the files stand for the history, and the log of the value is the one that is in force
pub record IsHeld (view : View) (publisher : Name) (es : List Recorded) (files : Files) : Type 0 where
  pub stands : StandsFor publisher es view.log.base files
  pub log_is : log_of stands.generation ≡ view.log.file

-- the value on its site is the database of this history: the value is that of the history, the files hold it, and every crash leaves files
-- that do
pub record IsDatabase (view : View) (publisher : Name) (es : List Recorded) (seen : Seen) : Type 0 where
  pub is : IsOf view publisher es
  pub held : IsHeld view publisher es seen.files
  pub settled : IsSettled (IsHeld view publisher es) seen

-- it is the database of some history
pub record HasDatabase (view : View) (seen : Seen) : Type 0 where
  pub publisher : Name
  pub es : List Recorded
  pub is : IsDatabase view publisher es seen

-- ---- behind a beginning, whether a history leads to it or not

-- the value is that of these entries behind a beginning, at which its log begins: catalog, rows and books are what they come to from there
pub record IsFrom (view : View) (b : Beginning) (es : List Recorded) : Type 0 where
  pub begins : IsBeginning b
  pub stored : stored_from b.state b.place es
  pub catalog : view.catalog ≡ (state_from b.state es).catalog
  pub marked : view.rows.marked ≡ (state_from b.state es).rows
  pub pending : ArePending view.catalog view.rows view.pending
  pub books : (user : Name) → book_in view.books user ≡ book_from sees user (listed b.books user) es
  pub base : view.log.base ≡ b.place
  pub base_catalog : view.base_catalog ≡ b.state.catalog
  pub end : view.log.end ≡ end_from b.place es

-- the files stand for these entries behind the beginning, and the log of the value is the one that is in force
pub record IsHeldFrom (view : View) (b : Beginning) (es : List Recorded) (files : Files) : Type 0 where
  pub stands : StandFrom b es files
  pub log_is : log_of stands.generation ≡ view.log.file

-- the value is that of these entries behind the beginning, the files hold them, and every crash leaves files that do
pub record IsDatabaseFrom (view : View) (b : Beginning) (es : List Recorded) (seen : Seen) : Type 0 where
  pub is : IsFrom view b es
  pub held : IsHeldFrom view b es seen.files
  pub settled : IsSettled (IsHeldFrom view b es) seen

-- it is that of some entries behind some beginning
pub record HasBeginning (view : View) (seen : Seen) : Type 0 where
  pub beginning : Beginning
  pub es : List Recorded
  pub is : IsDatabaseFrom view beginning es seen
