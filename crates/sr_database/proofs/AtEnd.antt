-- What a value holds at the end of its log.
use Rattle.std.proofs.Common.{◌≡◌, ℕ, List, [], map, refl, sym, ◌∙◌, ap}
use Rattle.std.proofs.lemmas.List.{append-nil}
use Rattle.std.specs.Prelude.{IsTrue}
use Rattle.sr_book.specs.Histories.{book_from}
use Rattle.sr_catalog_schema.specs.Catalogs.{Lists}
use Rattle.sr_catalog_schema.specs.declared.user.User.{User}
use Rattle.sr_database_files.specs.Books.{BookMap, book_in, listed}
use Rattle.sr_database_history.specs.Folds.{end_from, sees}
use Rattle.sr_database_history.specs.Recorded.{Recorded}
use Rattle.sr_database_replay.proofs.Onward.{lists_are}
use Rattle.sr_database_replay.specs.Inner.Stops.{lines_of}
use Rattle.sr_database_replay.specs.Stops.{beginning_from}
use Rattle.sr_exec_dml.specs.Applying.{applied}
use Rattle.sr_logfile.specs.Log.{Log}
use Rattle.sr_logform.specs.declared.change.Change.{Change}
use Rattle.sr_rows.specs.Marks.{Marked, RowMap}
use Rattle.sr_site.specs.Seen.{Seen}
use Rattle.sr_snapshot.specs.Beginnings.{Beginning}
use Rattle.sr_database.proofs.Opened.{its_beginning}
use Rattle.sr_database.specs.Databases.{ArePending, HasBeginning, IsDatabaseFrom}
use Rattle.sr_database.specs.Inner.Restarts.{HoldsOwn, IsLogFrom, IsOwn, IsPartedAt, own_beginning}
use Rattle.sr_database.specs.Views.{View}

-- ---- what the entries of a log come to

module _ (catalog : Lists) (rows : RowMap) (books : BookMap) (b : Beginning) (es : List Recorded) (own : IsOwn catalog rows books b es) where
  its_lines : lines_of books catalog.users ≡ (beginning_from b es).books
  its_lines =
      lists_are (book_in books) (λ user. book_from sees user (listed b.books user) es) catalog.users own.books_are
      ∙ ap (λ (c : Lists). map (λ (u : User). (u.name, book_from sees u.name (listed b.books u.name) es)) c.users) own.catalog_is

  own_is : (keep : ℕ) → keep ≡ end_from b.place es → own_beginning catalog rows books keep ≡ beginning_from b es
  own_is keep keep_is = λ i. record { place = keep_is i; state = record { catalog = own.catalog_is i; rows = own.rows_are i }; books = its_lines i }

-- the entries are parted at the log's end
pub own_parted : (log : Log) (keep : ℕ) (catalog : Lists) (rows : RowMap) (books : BookMap) (seen : Seen) → HoldsOwn log keep catalog rows books seen → (found : Beginning) → found ≡ own_beginning catalog rows books keep → IsTrue seen.observable
    → (b : Beginning) (es : List Recorded) → IsLogFrom log b es seen → IsPartedAt b es keep found
own_parted log keep catalog rows books seen holds found found_is told b es from =
    let keep_is : keep ≡ end_from b.place es = holds.end ∙ from.end_is in
    record { done = es; left = []; parts = sym (append-nil es); keep_is = keep_is; found_is = found_is ∙ own_is catalog rows books b es (holds.own told b es from) keep keep_is }

pub own_place : (found : Beginning) (catalog : Lists) (rows : RowMap) (books : BookMap) (keep : ℕ) → found ≡ own_beginning catalog rows books keep → found.place ≡ keep
own_place found catalog rows books keep is = λ i. (is i).place

-- ---- a value at rest

no_more : (catalog : Lists) (rows : Marked) (pending : List Change) → pending ≡ [] → ArePending catalog rows pending → rows.rows ≡ rows.marked
no_more catalog rows pending none are = are.rows_are ∙ ap (λ (l : List Change). applied catalog l rows.marked) none

pub holds_own : (view : View) (keep : ℕ) (seen : Seen) → (IsTrue seen.observable → HasBeginning view seen) → (keep ≡ view.log.end) × (view.pending ≡ []) → HoldsOwn view.log keep view.catalog view.rows.rows view.books seen
holds_own view keep seen has rest = record {
  end = rest.0;
  own = λ told b es from.
      let database : IsDatabaseFrom view b es seen = its_beginning view b es seen.files seen (has told) refl from.stands in
      record {
        catalog_is = database.is.catalog;
        rows_are = no_more view.catalog view.rows view.pending rest.1 database.is.pending ∙ database.is.marked;
        books_are = database.is.books;
      };
}
