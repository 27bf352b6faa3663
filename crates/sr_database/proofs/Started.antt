-- A database of a history is that of the entries of its log, behind what those before them come to.
use Rattle.std.proofs.Common.{◌≡◌, ℕ, List, ◌++◌, sym, ◌∙◌, ap, subst}
use Rattle.sr_book.proofs.Folds.{book_from-append}
use Rattle.sr_book.specs.Books.{new_book}
use Rattle.sr_book.specs.Entries.{Name}
use Rattle.sr_book.specs.Histories.{book_from}
use Rattle.sr_book.specs.declared.book.Book.{Book}
use Rattle.sr_database_history.proofs.Joined.{end_from-append, state_from-append}
use Rattle.sr_database_history.specs.Fitting.{Stored}
use Rattle.sr_database_history.specs.Folds.{State, books_of, end_of, fresh, sees, state_from, state_of}
use Rattle.sr_database_history.specs.Recorded.{Recorded}
use Rattle.sr_database_meaning.proofs.Alike.{stored_front}
use Rattle.sr_database_meaning.proofs.Standing.{behind, of_beginning, one_part}
use Rattle.sr_database_meaning.specs.Generations.{log_of, snapshot_of}
use Rattle.sr_database_meaning.specs.Standing.{StandFrom, bodies}
use Rattle.sr_database_replay.proofs.Booked.{listed_books}
use Rattle.sr_logfile.specs.Records.{Spells}
use Rattle.sr_site.specs.Files.{Files, bytes_of}
use Rattle.sr_site.specs.Seen.{Seen}
use Rattle.sr_snapshot.proofs.Histories.{history_is}
use Rattle.sr_snapshot.specs.Beginnings.{beginning_behind}
use Rattle.sr_snapshot.specs.Snapshots.{IsSnapshot}
use Rattle.sr_database.specs.Databases.{HasBeginning, HasDatabase, IsFrom, IsHeld, IsHeldFrom, IsOf}
use Rattle.sr_database.specs.Views.{View}

module _ (view : View) (publisher : Name) (es done left : List Recorded) (is : IsOf view publisher es) (parts : es ≡ done ++ left) (base_is : view.log.base ≡ end_of done) where
  whole_stored : Stored publisher (done ++ left)
  whole_stored = subst (λ (l : List Recorded). Stored publisher l) parts is.stored

  front_stored : Stored publisher done
  front_stored = stored_front publisher done left whole_stored

  states : state_of publisher es ≡ state_from (state_of publisher done) left
  states = ap (state_of publisher) parts ∙ state_from-append (fresh publisher) done left

  -- the catalog at the base is that behind these entries
  base_same : is.based.done ≡ done
  base_same = (one_part 0 is.based.done is.based.left done left (sym is.based.parts ∙ parts) (sym is.based.base_is ∙ base_is)).0

  from_history : IsFrom view (beginning_behind publisher done) left
  from_history =
      record {
        begins = history_is publisher done is.name front_stored;
        stored = behind publisher done left whole_stored;
        catalog = is.catalog ∙ ap (λ (s : State). s.catalog) states;
        marked = is.marked ∙ ap (λ (s : State). s.rows) states;
        pending = is.pending;
        books = λ user.
            is.books user
            ∙ ap (books_of user) parts
            ∙ book_from-append sees user new_book done left
            ∙ ap (λ (k : Book). book_from sees user k left) (sym (listed_books publisher done front_stored user));
        base = base_is;
        base_catalog = is.based.catalog_is ∙ ap (λ (ds : List Recorded). (state_of publisher ds).catalog) base_same;
        end = is.end ∙ ap end_of parts ∙ end_from-append 0 done left;
      }

  -- files that hold the history hold these entries behind the others
  held_from : (files : Files) → IsHeld view publisher es files → IsHeldFrom view (beginning_behind publisher done) left files
  held_from files held =
      let s = held.stands in
      let one = one_part 0 s.done s.left done left (sym s.parts ∙ parts) (sym s.base_is ∙ base_is) in
      let there : StandFrom (beginning_behind publisher done) left files = record {
        generation = s.generation;
        root = s.root;
        snapshot = subst (λ (ds : List Recorded). IsSnapshot (beginning_behind publisher ds) (bytes_of files (snapshot_of s.generation))) one.0 (of_beginning publisher s.done (bytes_of files (snapshot_of s.generation)) s.snapshot);
        stored = behind publisher done left whole_stored;
        log = subst (λ (n : ℕ). Spells n (bodies left) (bytes_of files (log_of s.generation))) base_is
            (subst (λ (ls : List Recorded). Spells view.log.base (bodies ls) (bytes_of files (log_of s.generation))) one.1 s.log);
      } in
      record { stands = there; log_is = held.log_is }

pub starts : (view : View) (seen : Seen) → HasDatabase view seen → HasBeginning view seen
starts view seen has =
    let database = has.is in
    let s = database.held.stands in
    record {
      beginning = beginning_behind has.publisher s.done;
      es = s.left;
      is = record {
        is = from_history view has.publisher has.es s.done s.left database.is s.parts s.base_is;
        held = held_from view has.publisher has.es s.done s.left database.is s.parts s.base_is seen.files database.held;
        settled = λ image there. held_from view has.publisher has.es s.done s.left database.is s.parts s.base_is image (database.settled image there);
      };
    }
