-- The value whose log was begun anew, and what its files stand for on the way.
use Rattle.std.proofs.Common.{◌≡◌, ◌≢◌, inl, inr, ℕ, ◌≤◌, true, false, List, ◌++◌, length, map, Some, refl, sym, ◌∙◌, ap, subst, arith, append_assoc}
use Rattle.std.specs.Prelude.{IsTrue}
use Rattle.sr_base.specs.Fields.{IsName}
use Rattle.sr_base.specs.declared.offset.Offset.{Offset}
use Rattle.sr_book.proofs.Folds.{book_from-append}
use Rattle.sr_book.specs.Books.{new_book}
use Rattle.sr_book.specs.Entries.{Name}
use Rattle.sr_book.specs.Histories.{book_from}
use Rattle.sr_book.specs.declared.book.Book.{Book}
use Rattle.sr_catalog_schema.specs.Catalogs.{Lists}
use Rattle.sr_catalog_schema.specs.declared.user.User.{User}
use Rattle.sr_catalog_script_laws.specs.Scripts.{IsSpellable}
use Rattle.sr_database_files.specs.Books.{BookMap, book_in, listed}
use Rattle.sr_database_files.specs.declared.fault.DatabaseFault.{DatabaseFault}
use Rattle.sr_database_files.specs.declared.fault.DatabaseFault.TheVariants.{Missing, Exists, Damaged, Disk, Full, Long, Memory}
use Rattle.sr_database_history.proofs.Joined.{end_from-append, state_from-append, stored_from-append}
use Rattle.sr_database_history.specs.Fitting.{Stored, stored_from}
use Rattle.sr_database_history.specs.Folds.{State, books_of, end_from, end_of, fresh, sees, state_from, state_of}
use Rattle.sr_database_history.specs.Inner.Laws.{Holds}
use Rattle.sr_database_history.specs.Recorded.{Recorded}
use Rattle.sr_database_meaning.proofs.Alike.{stored_front}
use Rattle.sr_database_meaning.proofs.Resting.{rests_end}
use Rattle.sr_database_meaning.proofs.Standing.{at_beginning, stand_behind}
use Rattle.sr_database_meaning.specs.Generations.{Generation, generation_in, generation_of, log_of, named, other_of, snapshot_of}
use Rattle.sr_database_meaning.specs.Restarts.{StandsAtEither, MayGoOver}
use Rattle.sr_database_meaning.specs.Standing.{StandsFor, StandFrom, bodies}
use Rattle.sr_database_replay.proofs.Booked.{listed_books}
use Rattle.sr_database_replay.proofs.Fronts.{parted}
use Rattle.sr_database_replay.proofs.Onward.{begins_from, listed_from, lists_are}
use Rattle.sr_database_replay.specs.Inner.Stops.{IsEndIn}
use Rattle.sr_database_replay.specs.Stops.{beginning_from}
use Rattle.sr_database_restart.proofs.Beside.{rests_each}
use Rattle.sr_database_restart.proofs.Standing.{both as both_stand, keeps, keeps_standing, named_names, new as stands_anew, of_one, stands as either_stands}
use Rattle.sr_database_restart.specs.Inner.Laws.{HoldsHistory, Names}
use Rattle.sr_database_restart.specs.Inner.Restarting.{AgreesOn, IsWhole, KeepsInForce}
use Rattle.sr_logfile.specs.Inner.Logs.{IsAt}
use Rattle.sr_logfile.specs.Log.{Log}
use Rattle.sr_logfile.specs.Records.{Spells}
use Rattle.sr_logfile_carry.proofs.Carried.{is_spelled}
use Rattle.sr_logfile_carry.specs.Inner.Carrying.{log_of_records}
use Rattle.sr_logform.specs.declared.change.Change.{Change}
use Rattle.sr_rows.specs.Marks.{Marked}
use Rattle.sr_site.specs.Files.{Files, bytes_of}
use Rattle.sr_site.specs.Images.{IsImage, IsSettled, RestsThroughout}
use Rattle.sr_site.specs.Seen.{Seen}
use Rattle.sr_snapshot.specs.Beginnings.{Beginning, IsBeginning, beginning_behind}
use Rattle.sr_snapshot.specs.Parts.{longest}
use Rattle.sr_snapshot.specs.Snapshots.{IsSnapshot, snapshot_spelling}
use Rattle.sr_database.proofs.Opened.{its_beginning, its_history}
use Rattle.sr_database.proofs.StatesBehind.{parts_there}
use Rattle.sr_database.specs.Databases.{ArePending, HasBeginning, IsDatabase, IsDatabaseFrom, IsFrom, IsHeldFrom}
use Rattle.sr_database.specs.Inner.Entries.{IsEnd}
use Rattle.sr_database.specs.Inner.Restarts.{AnewCause, BeginCause, HasBegun, HasLogFrom, IsLogFrom, IsNoEnd, IsSpentAt, MayGoAnew}
use Rattle.sr_database.specs.Inner.Sound.{IsSound}
use Rattle.sr_database.specs.Restarts.{BeginsAnew}
use Rattle.sr_database.specs.Views.{View, committed}

-- ---- the log of a value

pub log_from : (view : View) (b : Beginning) (es : List Recorded) (seen : Seen) → IsDatabaseFrom view b es seen → IsLogFrom view.log b es seen
log_from view b es seen database = record { stands = database.held.stands; log_is = database.held.log_is; base_is = database.is.base; end_is = database.is.end }

pub has_log_from : (view : View) (seen : Seen) → HasBeginning view seen → HasLogFrom view.log seen
has_log_from view seen has = record { beginning = has.beginning; es = has.es; is = log_from view has.beginning has.es seen has.is }

-- ---- the value

module _ (old new : View) (keep : ℕ) (anew : BeginsAnew keep old new) where
  same_committed : committed new ≡ committed old
  same_committed = λ i. record { catalog = anew.catalog i; rows = ap (λ (m : Marked). m.marked) anew.rows i }

  pending_too : ArePending old.catalog old.rows old.pending → ArePending new.catalog new.rows new.pending
  pending_too are =
      subst (λ (c : Lists). ArePending c new.rows new.pending) (sym anew.catalog)
      (subst (λ (m : Marked). ArePending old.catalog m new.pending) (sym anew.rows)
      (subst (λ (p : List Change). ArePending old.catalog old.rows p) (sym anew.pending) are))

  pub anew_sound : IsSpellable new.base_catalog → keep ≤ old.log.end → IsSound old → IsSound new
  anew_sound spelled within sound =
      let base_is : new.log.base ≡ keep = ap (λ (l : Log). l.base) anew.log in
      let end_is : new.log.end ≡ old.log.end = ap (λ (l : Log). l.end) anew.log in
      record {
        name = subst (λ (n : Name). IsName n) (sym (ap (λ (c : Lists). c.publisher) anew.catalog)) sound.name;
        holds = subst (λ (s : State). Holds s) (sym same_committed) sound.holds;
        pending = pending_too sound.pending;
        base_catalog = spelled;
        order = record {
          order = omega (arith, within, base_is, end_is);
          limit = omega (arith, sound.order.limit, end_is);
        };
      }

  -- ---- behind the new beginning

  module _ (b : Beginning) (es : List Recorded) (before now : Seen) (database : IsDatabaseFrom old b es before) (begun : HasBegun old.log keep b es before now new.base_catalog) where
    parts_stored : stored_from b.state b.place begun.done × stored_from (state_from b.state begun.done) (end_from b.place begun.done) begun.left
    parts_stored = (stored_from-append b.state b.place begun.done begun.left).0 (subst (λ (l : List Recorded). stored_from b.state b.place l) begun.parts database.is.stored)

    begins : IsBeginning (beginning_from b begun.done)
    begins = begins_from b begun.done database.is.begins parts_stored.0

    states : state_from b.state es ≡ state_from (state_from b.state begun.done) begun.left
    states = ap (state_from b.state) begun.parts ∙ state_from-append b.state begun.done begun.left

    is_from : IsFrom new (beginning_from b begun.done) begun.left
    is_from =
        record {
          begins = begins;
          stored = parts_stored.1;
          catalog = anew.catalog ∙ database.is.catalog ∙ ap (λ (s : State). s.catalog) states;
          marked = ap (λ (m : Marked). m.marked) anew.rows ∙ database.is.marked ∙ ap (λ (s : State). s.rows) states;
          pending = pending_too database.is.pending;
          books = λ user.
              ap (λ (k : BookMap). book_in k user) anew.books
              ∙ database.is.books user
              ∙ ap (book_from sees user (listed b.books user)) begun.parts
              ∙ book_from-append sees user (listed b.books user) begun.done begun.left
              ∙ ap (λ (k : Book). book_from sees user k begun.left) (sym (listed_from b begun.done database.is.begins parts_stored.0 user));
          base = ap (λ (l : Log). l.base) anew.log ∙ begun.keep_is;
          base_catalog = begun.catalog_is;
          end = ap (λ (l : Log). l.end) anew.log ∙ database.is.end ∙ ap (end_from b.place) begun.parts ∙ end_from-append b.place begun.done begun.left;
        }

    its_parts : IsAt old.log keep (bodies begun.done) (bodies begun.left) before.files
    its_parts = parts_there old.log b es before (log_from old b es before database) begun.done begun.left keep begun.parts begun.keep_is

    is_held : (image : Files) → IsWhole (other_of (generation_of old.log.file)) (named (other_of (generation_of old.log.file)) before.files.root) (snapshot_spelling (beginning_from b begun.done)) (log_of_records keep (bodies begun.left)) image
        → IsHeldFrom new (beginning_from b begun.done) begun.left image
    is_held image whole =
        let other = other_of (generation_of old.log.file) in
        let kept : IsSnapshot (beginning_from b begun.done) (snapshot_spelling (beginning_from b begun.done)) = record { is = begins; bytes_are = refl; short = begun.short } in
        let spelled : Spells (end_from b.place begun.done) (bodies begun.left) (log_of_records keep (bodies begun.left)) =
        subst (λ (n : ℕ). Spells n (bodies begun.left) (log_of_records keep (bodies begun.left))) begun.keep_is (is_spelled old.log keep (bodies begun.done) (bodies begun.left) before.files its_parts) in
        let there : StandFrom (beginning_from b begun.done) begun.left image = record {
          generation = other;
          root = ap generation_in whole.root_is ∙ named_names other before.files.root;
          snapshot = subst (λ (bytes : List ℕ). IsSnapshot (beginning_from b begun.done) bytes) (sym whole.parts.snapshot_is) kept;
          stored = parts_stored.1;
          log = subst (λ (bytes : List ℕ). Spells (end_from b.place begun.done) (bodies begun.left) bytes) (sym whole.parts.log_is) spelled;
        } in
        record { stands = there; log_is = sym (ap (λ (l : Log). l.file) anew.log) }

    has_beginning : IsImage now now.files → HasBeginning new now
    has_beginning read =
        record {
          beginning = beginning_from b begun.done;
          es = begun.left;
          is = record {
            is = is_from;
            held = is_held now.files (begun.restarted.settled now.files read);
            settled = λ image there. is_held image (begun.restarted.settled image there);
          };
        }

pub beginning_anew : (old new : View) (before : Seen) → HasBeginning old before → (keep : ℕ) (now : Seen) → ((b : Beginning) (ls : List Recorded) → IsLogFrom old.log b ls before → HasBegun old.log keep b ls before now new.base_catalog) → BeginsAnew keep old new
    → IsImage now now.files → HasBeginning new now
beginning_anew old new before has keep now begun anew read =
    has_beginning old new keep anew has.beginning has.es before now has.is (begun has.beginning has.es (log_from old has.beginning has.es before has.is)) read

-- ---- a history behind which its beginning lies

module _ (publisher : Name) (done more : List Recorded) (stored : Stored publisher done) where
  -- the book of a user behind the others, and behind all
  abbrev behind : Name → Book
  behind user = book_from sees user (listed (beginning_behind publisher done).books user) more

  abbrev whole : Name → Book
  whole user = books_of user (done ++ more)

  book_joined : (user : Name) → behind user ≡ whole user
  book_joined user = ap (λ (k : Book). book_from sees user k more) (listed_books publisher done stored user) ∙ sym (book_from-append sees user new_book done more)

  state_joined : state_from (state_of publisher done) more ≡ state_of publisher (done ++ more)
  state_joined = sym (state_from-append (fresh publisher) done more)

  books_joined : (beginning_from (beginning_behind publisher done) more).books ≡ (beginning_behind publisher (done ++ more)).books
  books_joined =
      lists_are behind whole (state_from (state_of publisher done) more).catalog.users book_joined
      ∙ ap (λ (s : State). map (λ (u : User). (u.name, whole u.name)) s.catalog.users) state_joined

  -- what entries come to behind what others come to is what all come to
  joined : beginning_from (beginning_behind publisher done) more ≡ beginning_behind publisher (done ++ more)
  joined = λ i. record { place = sym (end_from-append 0 done more) i; state = state_joined i; books = books_joined i }

module _ (old : View) (publisher : Name) (es : List Recorded) (before : Seen) (has : HasBeginning old before) (database : IsDatabase old publisher es before) where
  abbrev pub its_start : Beginning
  its_start = beginning_behind publisher database.held.stands.done

  pub from_start : IsDatabaseFrom old its_start database.held.stands.left before
  from_start = its_beginning old its_start database.held.stands.left before.files before has refl (stand_behind publisher es old.log.base before.files database.held.stands)

  settled : IsSettled (StandsFor publisher es old.log.base) before
  settled image there = let held = database.settled image there in held.stands

  names : IsSettled (Names (generation_of old.log.file)) before
  names image there =
      let held = database.settled image there in
      subst (λ (g : Generation). generation_in image.root ≡ Some g) (sym (of_one held.stands.generation old.log.file held.log_is).1) held.stands.root

  pub standing : (now : Seen) → RestsThroughout (KeepsInForce (generation_of old.log.file) before) before now → RestsThroughout (StandsFor publisher es old.log.base) before now
  standing now rests = keeps_standing (generation_of old.log.file) publisher es old.log.base before now settled names rests

  -- what is written holds the history
  module _ (keep : ℕ) (done left : List Recorded) (parts : database.held.stands.left ≡ done ++ left) (keep_is : keep ≡ end_from its_start.place done) (short : length (snapshot_spelling (beginning_from its_start done)) ≤ longest) where
    start_stored : Stored publisher database.held.stands.done
    start_stored = stored_front publisher database.held.stands.done database.held.stands.left (subst (λ (l : List Recorded). Stored publisher l) database.held.stands.parts database.held.stands.stored)

    done_stored : stored_from its_start.state its_start.place done
    done_stored = ((stored_from-append its_start.state its_start.place done left).0 (subst (λ (l : List Recorded). stored_from its_start.state its_start.place l) parts from_start.is.stored)).0

    history : HoldsHistory publisher es keep (snapshot_spelling (beginning_from its_start done)) (log_of_records keep (bodies left))
    history =
        let s = database.held.stands in
        let here : IsSnapshot (beginning_from its_start done) (snapshot_spelling (beginning_from its_start done)) = record { is = begins_from its_start done from_start.is.begins done_stored; bytes_are = refl; short = short } in
        let there : IsSnapshot (beginning_behind publisher (s.done ++ done)) (snapshot_spelling (beginning_from its_start done)) =
        subst (λ (x : Beginning). IsSnapshot x (snapshot_spelling (beginning_from its_start done))) (joined publisher s.done done start_stored) here in
        record {
          name = s.name;
          stored = s.stored;
          done = s.done ++ done;
          left = left;
          parts = s.parts ∙ ap (λ (l : List Recorded). s.done ++ l) parts ∙ sym (append_assoc s.done done left);
          base_is = keep_is ∙ sym (end_from-append 0 s.done done);
          snapshot_is = at_beginning publisher (s.done ++ done) (snapshot_spelling (beginning_from its_start done)) there;
          log_is = is_spelled old.log keep (bodies done) (bodies left) before.files (parts_there old.log its_start s.left before (log_from old its_start s.left before from_start) done left keep parts keep_is);
        }

  either : (keep : ℕ) (now : Seen) → MayGoAnew old.log keep its_start database.held.stands.left before now → RestsThroughout (StandsAtEither publisher es old.log.base keep) before now
  either keep now (inl rests) = rests_each (StandsFor publisher es old.log.base) (StandsAtEither publisher es old.log.base keep) before now (λ image there. inl there) (standing now rests)
  either keep now (inr went) =
      either_stands (generation_of old.log.file) publisher es old.log.base keep (snapshot_spelling (beginning_from its_start went.done)) (log_of_records keep (bodies went.left)) before
      (history keep went.done went.left went.parts went.keep_is went.short) settled names now (inr went.went)

  over : (keep : ℕ) (now : Seen) → MayGoAnew old.log keep its_start database.held.stands.left before now → MayGoOver (generation_of old.log.file) publisher es old.log.base keep before now
  over keep now (inl rests) = inl (standing now rests)
  over keep now (inr went) =
      let w = went.went in
      inr (record {
        middle = w.middle;
        first = w.first;
        writing = standing w.middle w.writing;
        naming = both_stand (generation_of old.log.file) publisher es old.log.base keep (snapshot_spelling (beginning_from its_start went.done)) (log_of_records keep (bodies went.left)) before
            (history keep went.done went.left went.parts went.keep_is went.short) settled names w.middle now w.naming;
      })

  its_log : IsLogFrom old.log its_start database.held.stands.left before
  its_log = log_from old its_start database.held.stands.left before from_start

  -- whichever entries the log is of, it went so
  pub moments : (keep : ℕ) (now : Seen) → ((b : Beginning) (ls : List Recorded) → IsLogFrom old.log b ls before → MayGoAnew old.log keep b ls before now) → RestsThroughout (StandsAtEither publisher es old.log.base keep) before now
  moments keep now goes = either keep now (goes its_start database.held.stands.left its_log)

  pub goes_over : (keep : ℕ) (now : Seen) → ((b : Beginning) (ls : List Recorded) → IsLogFrom old.log b ls before → MayGoAnew old.log keep b ls before now) → MayGoOver (generation_of old.log.file) publisher es old.log.base keep before now
  goes_over keep now goes = over keep now (goes its_start database.held.stands.left its_log)

  -- the new value is the database of the history
  is_database : (new_view : View) (keep : ℕ) (now : Seen) → HasBegun old.log keep its_start database.held.stands.left before now new_view.base_catalog → HasBeginning new_view now → IsImage now now.files → IsDatabase new_view publisher es now
  is_database new_view keep now begun later read =
      its_history new_view publisher es keep now.files now later refl
      (stands_anew (generation_of old.log.file) publisher es keep (snapshot_spelling (beginning_from its_start begun.done)) (log_of_records keep (bodies begun.left)) before now
      (history keep begun.done begun.left begun.parts begun.keep_is begun.short) begun.restarted now.files read)

-- the new value is the database of each history of which the old one is
pub database_anew : (old new_view : View) (publisher : Name) (es : List Recorded) (before : Seen) → HasBeginning old before → IsDatabase old publisher es before → (keep : ℕ) (now : Seen)
    → ((b : Beginning) (ls : List Recorded) → IsLogFrom old.log b ls before → HasBegun old.log keep b ls before now new_view.base_catalog) → BeginsAnew keep old new_view → IsImage now now.files → IsDatabase new_view publisher es now
database_anew old new_view publisher es before has database keep now begun anew read =
    let start = its_start old publisher es before has database in
    let left = database.held.stands.left in
    is_database old publisher es before has database new_view keep now (begun start left (its_log old publisher es before has database)) (beginning_anew old new_view before has keep now begun anew read) read

-- ---- where nothing of it changed

module _ (view : View) (before now : Seen) (has : HasBeginning view before) (first : now.first ≡ before.first) (rests : RestsThroughout (KeepsInForce (generation_of view.log.file) before) before now) (read : IsImage now now.files) where
  held_there : (old image : Files) → AgreesOn (generation_of view.log.file) old image → IsHeldFrom view has.beginning has.es old → IsHeldFrom view has.beginning has.es image
  held_there old image agrees held =
      let s = held.stands in
      let at : generation_of view.log.file ≡ s.generation = (of_one s.generation view.log.file held.log_is).1 in
      let snapshot_too : bytes_of image (snapshot_of s.generation) ≡ bytes_of old (snapshot_of s.generation) = subst (λ (g : Generation). bytes_of image (snapshot_of g) ≡ bytes_of old (snapshot_of g)) at agrees.snapshot in
      let log_too : bytes_of image (log_of s.generation) ≡ bytes_of old (log_of s.generation) = subst (λ (g : Generation). bytes_of image (log_of g) ≡ bytes_of old (log_of g)) at agrees.log in
      record {
        stands = record {
          generation = s.generation;
          root = ap generation_in agrees.root ∙ s.root;
          snapshot = subst (λ (bytes : List ℕ). IsSnapshot has.beginning bytes) (sym snapshot_too) s.snapshot;
          stored = s.stored;
          log = subst (λ (bytes : List ℕ). Spells has.beginning.place (bodies has.es) bytes) (sym log_too) s.log;
        };
        log_is = held.log_is;
      }

  held_now : IsSettled (IsHeldFrom view has.beginning has.es) now
  held_now = rests_end (IsHeldFrom view has.beginning has.es) before now first (keeps (generation_of view.log.file) (IsHeldFrom view has.beginning has.es) before now held_there rests has.is.settled)

  pub left_beginning : HasBeginning view now
  left_beginning = record { beginning = has.beginning; es = has.es; is = record { is = has.is.is; held = held_now now.files read; settled = held_now } }

  pub left_database : (publisher : Name) (es : List Recorded) → IsDatabase view publisher es before → IsDatabase view publisher es now
  left_database publisher es database =
      its_history view publisher es view.log.base now.files now left_beginning refl
      (rests_end (StandsFor publisher es view.log.base) before now first (standing view publisher es before has database now rests) now.files read)

pub same_unless : (old new_view : View) (keep : Offset) (before now : Seen) (fault : DatabaseFault) → fault ≢ Disk → AnewCause old new_view keep before now fault → new_view ≡ old
same_unless old new_view keep before now Missing other cause = absurd cause
same_unless old new_view keep before now Exists other cause = absurd cause
same_unless old new_view keep before now (Damaged file at) other cause = cause.1
same_unless old new_view keep before now Disk other cause = absurd (other refl)
same_unless old new_view keep before now (Full end need) other cause = absurd cause
same_unless old new_view keep before now (Long size limit) other cause = cause.1
same_unless old new_view keep before now Memory other cause = cause.0

-- ---- why not

-- a value whose log is not used again need not be sound
pub spent_sound : (inside : View) (log : Log) (fault : DatabaseFault) → IsSpentAt fault inside.log log → (IsTrue inside.log.usable → IsSound inside) → IsTrue log.usable → IsSound (record inside { log = log })
spent_sound inside log fault is has usable = by fault is
  where
    same : log ≡ inside.log → IsSound (record inside { log = log })
    same e = subst (λ (l : Log). IsSound (record inside { log = l })) (sym e) (has (ap (λ (l : Log). l.usable) (sym e) ∙ usable))

    by : (f : DatabaseFault) → IsSpentAt f inside.log log → IsSound (record inside { log = log })
    by Missing e = same e
    by Exists e = same e
    by (Damaged file at) e = same e
    by Disk e = let both : false ≡ true = ap (λ (l : Log). l.usable) (sym e) ∙ usable in absurd (cc)
    by (Full end need) e = same e
    by (Long size limit) e = same e
    by Memory e = same e

module _ (old new_view : View) (keep : Offset) (before now : Seen) (from : old.log.base ≤ keep.0) (has : IsTrue before.observable → HasBeginning old before) where
  -- where the log has no end of an entry there, the database has none
  no_end : IsTrue before.observable → ((b : Beginning) (es : List Recorded) → IsLogFrom old.log b es before → ¬ (IsEndIn b.place es keep.0)) → IsNoEnd old keep before
  no_end told none = record {
    behind = λ end. none end.beginning (end.done ++ end.left) (log_from old end.beginning (end.done ++ end.left) before end.is) (record { done = end.done; left = end.left; parts = refl; keep_is = end.keep_is });
    history = λ end. never end;
  }
    where
      never : IsEnd old keep before → ⊥
      never end =
          let s = end.is.held.stands in
          let order : end_of s.done ≤ end_of end.done = omega (arith, s.base_is, from, end.after_is) in
          let m = parted 0 s.done s.left end.done end.left (sym s.parts) order in
          let start = from_start old end.publisher (end.done ++ end.left) before (has told) end.is in
          none (beginning_behind end.publisher s.done) s.left (log_from old (beginning_behind end.publisher s.done) s.left before start)
          (record { done = m.more; left = end.left; parts = m.others_are; keep_is = end.after_is ∙ ap end_of m.done_is ∙ end_from-append 0 s.done m.more })

  module _ (rest : new_view ≡ record old { log = new_view.log }) where
    as_it_was : new_view.log ≡ old.log → new_view ≡ old
    as_it_was same = rest ∙ ap (λ (l : Log). record old { log = l }) same

    pub anew_cause : (fault : DatabaseFault) → IsSpentAt fault old.log new_view.log → BeginCause old.log keep.0 before now fault → AnewCause old new_view keep before now fault
    anew_cause Missing is cause = absurd cause
    anew_cause Exists is cause = absurd cause
    anew_cause (Damaged file at) is cause = (λ told. no_end told (cause.0 told), as_it_was is, cause.1)
    anew_cause Disk is cause = record { rose = cause; spent_is = rest ∙ ap (λ (l : Log). record old { log = l }) is }
    anew_cause (Full end need) is cause = absurd cause
    anew_cause (Long size limit) is cause = (
      record { long = cause.0.long; limit_is = cause.0.limit_is; size_is = λ told b done left database keep_is. cause.0.size_is told b done left (log_from old b (done ++ left) before database) keep_is },
      as_it_was is,
      cause.1,
    )
    anew_cause Memory is cause = (as_it_was is, cause)
