-- How a database is opened.
use Rattle.std.proofs.Common.{◌≡◌, ℕ, List, ◌++◌, refl, sym, ◌∙◌, ap, subst, arith}
use Rattle.sr_base.specs.Fields.{IsName}
use Rattle.sr_book.specs.Books.{new_book}
use Rattle.sr_book.specs.Entries.{Name}
use Rattle.sr_book.specs.Histories.{book_from}
use Rattle.sr_book.specs.declared.book.Book.{Book}
use Rattle.sr_book.proofs.Folds.{book_from-append}
use Rattle.sr_database_history.specs.Fitting.{Stored}
use Rattle.sr_database_history.specs.Folds.{State, fresh, end_of, sees}
use Rattle.sr_database_history.specs.Recorded.{Recorded}
use Rattle.sr_database_history.proofs.Joined.{state_from-append, end_from-append}
use Rattle.sr_logfile.specs.Inner.Moments.{IsAsRead}
use Rattle.sr_logfile.specs.Records.{Spells}
use Rattle.sr_site.specs.Files.{Files, bytes_of}
use Rattle.sr_site.specs.Images.{IsSettled}
use Rattle.sr_site.specs.Seen.{Seen}
use Rattle.sr_site.specs.declared.file.File.{File}
use Rattle.sr_site.specs.declared.file.File.TheVariants.{Root}
use Rattle.sr_snapshot.specs.Beginnings.{Beginning, beginning_behind}
use Rattle.sr_snapshot.specs.Snapshots.{IsSnapshot}
use Rattle.sr_database_meaning.specs.Generations.{generation_in, snapshot_of, log_of}
use Rattle.sr_database_meaning.specs.Standing.{bodies, IsSnapshotAt, StandsFor, StandFrom}
use Rattle.sr_database_meaning.proofs.Alike.{stored_front}
use Rattle.sr_database_meaning.proofs.Standing.{ends_are, at_beginning, stand_behind, one_standing}
use Rattle.sr_database.specs.Databases.{IsOf, IsHeld, IsDatabase, IsFrom, IsHeldFrom, IsDatabaseFrom, HasBeginning}
use Rattle.sr_database.specs.InForce.{IsInForce, HasLogInForce}
use Rattle.sr_database.specs.Views.{View}
use Rattle.sr_database_replay.proofs.Booked.{listed_books}

-- ---- an opened database

pub opened : (db : View) (b : Beginning) (es : List Recorded) (seen : Seen) → IsFrom db b es → (stands : StandFrom b es seen.files) → log_of stands.generation ≡ db.log.file
    → IsSettled (IsAsRead Root seen) seen → IsSettled (IsAsRead (snapshot_of stands.generation) seen) seen → IsSettled (IsAsRead (log_of stands.generation) seen) seen → IsDatabaseFrom db b es seen
opened db b es seen is stands file root snapshot log =
    record {
      is = is;
      held = record { stands = stands; log_is = file };
      settled = λ image there. record {
        stands = record {
          generation = stands.generation;
          root = ap generation_in (root image there) ∙ stands.root;
          snapshot = subst (λ (l : List ℕ). IsSnapshot b l) (sym (snapshot image there)) stands.snapshot;
          stored = stands.stored;
          log = subst (λ (l : List ℕ). Spells b.place (bodies es) l) (sym (log image there)) stands.log;
        };
        log_is = file;
      };
    }

-- of a history for which the files stand, the value is the database
module _ (db : View) (publisher : Name) (name : IsName publisher) (done left : List Recorded) (stored : Stored publisher (done ++ left)) (snapshot : List ℕ) (kept : IsSnapshotAt publisher done snapshot) where
  of_history : IsFrom db (beginning_behind publisher done) left → IsOf db publisher (done ++ left)
  of_history is =
      record {
        name = name;
        stored = stored;
        catalog = is.catalog ∙ ap (λ (s : State). s.catalog) (sym (state_from-append (fresh publisher) done left));
        marked = is.marked ∙ ap (λ (s : State). s.rows) (sym (state_from-append (fresh publisher) done left));
        pending = is.pending;
        books = λ user.
            is.books user
            ∙ ap (λ (k : Book). book_from sees user k left) (listed_books publisher done (stored_front publisher done left stored) user)
            ∙ sym (book_from-append sees user new_book done left);
        based = record { done = done; left = left; parts = refl; base_is = is.base; catalog_is = is.base_catalog; snapshot = snapshot; is_snapshot = kept };
        end = is.end ∙ sym (end_from-append 0 done left);
      }

  held_history : (files : Files) → db.log.base ≡ end_of done → IsHeldFrom db (beginning_behind publisher done) left files → IsHeld db publisher (done ++ left) files
  held_history files base held =
      let stands : StandsFor publisher (done ++ left) db.log.base files = record {
        generation = held.stands.generation;
        root = held.stands.root;
        name = name;
        stored = stored;
        done = done;
        left = left;
        parts = refl;
        base_is = base;
        snapshot = at_beginning publisher done (bytes_of files (snapshot_of held.stands.generation)) held.stands.snapshot;
        log = subst (λ (n : ℕ). Spells n (bodies left) (bytes_of files (log_of held.stands.generation))) (sym base) held.stands.log;
      } in
      record { stands = stands; log_is = held.log_is }

  pub database_history : (seen : Seen) → IsDatabaseFrom db (beginning_behind publisher done) left seen → IsDatabase db publisher (done ++ left) seen
  database_history seen database =
      record {
        is = of_history database.is;
        held = held_history seen.files database.is.base database.held;
        settled = λ image there. held_history image database.is.base (database.settled image there);
      }

-- what is opened is that of each beginning behind which the files stand, and of each history for which they do
pub its_beginning : (db : View) (b : Beginning) (es : List Recorded) (files : Files) (seen : Seen) → HasBeginning db seen → seen.files ≡ files → StandFrom b es files → IsDatabaseFrom db b es seen
its_beginning db b es files seen has same stands =
    let here : StandFrom has.beginning has.es files = subst (λ (f : Files). StandFrom has.beginning has.es f) same has.is.held.stands in
    let both = one_standing has.beginning b has.es es files here stands in
    subst (λ (c : Beginning). IsDatabaseFrom db c es seen) both.0 (subst (λ (l : List Recorded). IsDatabaseFrom db has.beginning l seen) both.1 has.is)

pub its_history : (db : View) (publisher : Name) (es : List Recorded) (base : ℕ) (files : Files) (seen : Seen) → HasBeginning db seen → seen.files ≡ files → StandsFor publisher es base files → IsDatabase db publisher es seen
its_history db publisher es base files seen has same stands =
    let from : IsDatabaseFrom db (beginning_behind publisher stands.done) stands.left seen = its_beginning db (beginning_behind publisher stands.done) stands.left files seen has same (stand_behind publisher es base files stands) in
    subst (λ (l : List Recorded). IsDatabase db publisher l seen) (sym stands.parts)
    (database_history db publisher stands.name stands.done stands.left (subst (λ (l : List Recorded). Stored publisher l) stands.parts stands.stored) (bytes_of files (snapshot_of stands.generation)) stands.snapshot seen from)

-- its log is in force
in_force_held : (db : View) (b : Beginning) (es : List Recorded) (files : Files) → IsFrom db b es → IsHeldFrom db b es files → IsInForce db.log files
in_force_held db b es files is held =
    record {
      generation = held.stands.generation;
      root = held.stands.root;
      log_is = held.log_is;
      bodies = bodies es;
      spells = subst (λ (n : ℕ). Spells n (bodies es) (bytes_of files db.log.file)) (sym is.base) (subst (λ (f : File). Spells b.place (bodies es) (bytes_of files f)) held.log_is held.stands.log);
      end_is = omega (arith, is.end, is.base, ends_are b.place es);
    }

pub in_force_from : (db : View) (seen : Seen) → HasBeginning db seen → HasLogInForce db seen
in_force_from db seen has =
    record {
      now = in_force_held db has.beginning has.es seen.files has.is.is has.is.held;
      settled = λ image there. in_force_held db has.beginning has.es image has.is.is (has.is.settled image there);
      each = λ publisher es base stands. its_history db publisher es base seen.files seen has refl stands;
    }
