-- What a database is behind a commit, and what it is where one was refused.
use Rattle.std.proofs.Common.{◌≡◌, ℕ, ◌+◌, ◌≤◌, ◌^◌, Bool, List, [], ◌∷◌, ◌++◌, length, refl, sym, ◌∙◌, ap, subst, arith}
use Rattle.sr_book.specs.Entries.{Name}
use Rattle.sr_catalog_schema.specs.Catalogs.{Lists}
use Rattle.sr_database_fold.specs.Inner.Readings.{state_in}
use Rattle.sr_database_history.specs.Fitting.{Fits}
use Rattle.sr_database_history.specs.Folds.{state_of, size, end_of}
use Rattle.sr_database_history.specs.Recorded.{Recorded, entry_of}
use Rattle.sr_logfile.specs.Inner.Calls.{commit_calls}
use Rattle.sr_logfile.specs.Log.{Log}
use Rattle.sr_logfile.specs.Logs.{gate_of}
use Rattle.sr_logfile.specs.Inner.Logs.{IsLog, longer, spent}
use Rattle.sr_logfile.specs.Inner.Moments.{HasOrLacks, IsAsRead}
use Rattle.sr_logfile.specs.Records.{IsBody, Spells, body_of}
use Rattle.sr_logfile.proofs.Commits.{length-framed}
use Rattle.sr_logform.specs.Entries.{entry_spelling}
use Rattle.sr_logform.specs.Limits.{longest_body}
use Rattle.sr_logform.specs.declared.change.Change.{Change}
use Rattle.sr_logform.specs.declared.entry.Entry.{Entry}
use Rattle.sr_logform.specs.declared.entry.Entry.TheVariants as entries
use Rattle.sr_rows.specs.Marks.{Marked}
use Rattle.sr_rows.specs.Inner.Steps.{at_mark}
use Rattle.sr_site.specs.Inner.Calls.{write, sync}
use Rattle.sr_site.specs.Causes.{DiskStays}
use Rattle.sr_site.specs.Files.{bytes_of, OthersStay}
use Rattle.sr_site.specs.Inner.Happenings.{Made}
use Rattle.sr_site.specs.Images.{IsSettled, RestsThroughout}
use Rattle.sr_site.specs.Seen.{Seen}
use Rattle.sr_database_meaning.specs.Events.{attaches_in, commit}
use Rattle.sr_database_meaning.specs.Standing.{bodies, StandsFor}
use Rattle.sr_database_meaning.specs.Traces.{Went}
use Rattle.sr_database_meaning.proofs.Standing.{some_byte, size_is}
use Rattle.sr_database.specs.Advances.{Advances}
use Rattle.sr_database.specs.Commits.{IsPrepared, framed_size}
use Rattle.sr_database.specs.Inner.Commits.{CanCommit, CanCommitSome}
use Rattle.sr_database.specs.Databases.{ArePending, IsOf, IsDatabase}
use Rattle.sr_database.specs.Inner.Without.{WasWithout}
use Rattle.sr_database.specs.InForce.{HasLogInForce}
use Rattle.sr_database.specs.Inner.Taking.{at_last_commit, Takes}
use Rattle.sr_database.specs.Inner.Sound.{IsSound}
use Rattle.sr_database.specs.Views.{View}
use Rattle.sr_database_files.proofs.Attaches.{on_attaches}
use Rattle.sr_database_files.proofs.Beside.{made_on, something}
use Rattle.sr_database.proofs.Advancing.{advanced_of, advanced_sound}
use Rattle.sr_database.proofs.Commits.{may_stand, may_stand_on, log_of_held, log_settled, went, database_after}
use Rattle.sr_database.proofs.InForce.{has_log, in_force_after}
use Rattle.sr_database.proofs.Values.{none_pending, stored_more}
use Rattle.sr_database.proofs.Without.{without}

-- ---- bodies

longest : (e : Entry) → longest_body e ≤ 2 ^ 26
longest (entries.Own changes) = omega arith
longest (entries.From user at ops) = omega arith
longest (entries.Ddl text) = omega arith
longest (entries.Sync user tables) = omega arith
longest (entries.Pass users only text changes) = omega arith
longest (entries.Note user note) = omega arith

pub short_is_body : (e : Entry) (body : List ℕ) → body ≡ entry_spelling e → length body ≤ longest_body e → IsBody body
short_is_body e body is short = (omega (arith, some_byte e, ap length is), omega (arith, short, longest e))

-- ---- a record

pub framed_length : (log : Log) (entry : Entry) (framed : List ℕ) → IsPrepared log entry framed → length framed ≡ framed_size entry
framed_length log entry framed prepared = omega (arith, length-framed framed prepared.framed_is, ap length prepared.body_is)

-- ---- its calls

-- they attach nothing
pub attaches_added : (log : Log) (framed : List ℕ) (before now : Seen) (done : Bool) → Made (commit_calls log.file (gate_of log) framed) before.happened now.happened done
    → attaches_in now.happened ≡ attaches_in before.happened
attaches_added log framed before now done made =
    on_attaches log.file before.happened now.happened (made_on log.file (commit_calls log.file (gate_of log) framed) before.happened now.happened done (refl, (refl, (refl, (refl, tt)))) made)

-- ---- behind a commit

-- at the mark nothing is pending, and what was committed is what the rows show
state_marked : (catalog : Lists) (rows : Marked) → rows ≡ at_mark rows.rows → at_last_commit catalog rows ≡ state_in catalog rows
state_marked catalog rows marked = ap (λ (m : Marked). at_last_commit catalog m) marked

none_follow : (catalog : Lists) (rows : Marked) (pending : List Change) → rows ≡ at_mark rows.rows → pending ≡ [] → ArePending catalog rows pending
none_follow catalog rows pending marked none =
    subst (λ (p : List Change). ArePending catalog rows p) (sym none) (subst (λ (m : Marked). ArePending catalog m []) (sym marked) (none_pending catalog rows.rows))

-- what is made of a value whose record is about to be put, or was
pub record Added (old new : View) (entry : Entry) (framed : List ℕ) : Type 0 where
  pub takes : Takes old.catalog new.catalog old.rows new.rows old.books new.books old.pending entry
  pub prepared : IsPrepared old.log entry framed
  pub none : new.pending ≡ []
  pub base_catalog_is : new.base_catalog ≡ old.base_catalog

module _ (old new : View) (entry : Entry) (framed : List ℕ) (added : Added old new entry framed) where
  fits : (publisher : Name) (es : List Recorded) (r : Recorded) → IsOf old publisher es → CanCommit old entry r → Fits (state_of publisher es) (end_of es) r
  fits publisher es r is can = may_stand old publisher es entry r is can added.prepared.kept added.prepared.room

  body_is : (r : Recorded) → CanCommit old entry r → body_of framed ≡ entry_spelling (entry_of r)
  body_is r can = added.prepared.body_is ∙ ap entry_spelling (sym can.is)

  -- where it stands
  module _ (log_is : new.log ≡ longer old.log (length framed)) where
    pub advanced_added : (r : Recorded) → ArePending old.catalog old.rows old.pending → CanCommit old entry r → Advances old new (r ∷ [])
    advanced_added r are can =
        record {
          fit = (may_stand_on old entry r are can added.prepared.kept added.prepared.room, tt);
          state = state_marked new.catalog new.rows added.takes.state.fresh ∙ added.takes.state.effect r can;
          books = added.takes.books_are r can.is;
          pending = λ was. none_follow new.catalog new.rows new.pending added.takes.state.fresh added.none;
          base_catalog = added.base_catalog_is;
          base = ap (λ (l : Log). l.base) log_is;
          end = end_is;
        }
      where
        end_is : new.log.end ≡ old.log.end + (size r + 5)
        end_is = omega (arith, ap (λ (l : Log). l.end) log_is, framed_length old.log entry framed added.prepared, size_is r, ap (λ (e : Entry). length (entry_spelling e)) can.is)

    pub value_added : (publisher : Name) (es : List Recorded) (r : Recorded) → IsOf old publisher es → CanCommit old entry r → IsOf new publisher (es ++ r ∷ [])
    value_added publisher es r is can = advanced_of old new publisher es (r ∷ []) (advanced_added r is.pending can) is

    pub sound_added : IsSound old → CanCommitSome old entry → IsSound new
    sound_added sound can = advanced_sound old new (can.r ∷ []) (advanced_added can.r sound.pending can.can) sound

    pub database_added : (before now : Seen) (publisher : Name) (es : List Recorded) (r : Recorded) (done : Bool) → IsDatabase old publisher es before → CanCommit old entry r
        → Made (commit_calls old.log.file (gate_of old.log) framed) before.happened now.happened done → OthersStay old.log.file before.files now.files
        → ((b : List (List ℕ)) → IsLog old.log b before.files → IsLog new.log (b ++ body_of framed ∷ []) now.files) → IsSettled (IsAsRead old.log.file now) now → DiskStays before now
        → IsDatabase new publisher (es ++ r ∷ []) now
    database_added before now publisher es r done database can made others log read stays =
        database_after old new publisher es r framed before now database (ap (λ (l : Log). l.file) log_is) (ap (λ (l : Log). l.base) log_is)
        (stored_more publisher es r database.is.stored (fits publisher es r database.is can)) (body_is r can)
        (value_added publisher es r database.is can) others (log (bodies database.held.stands.left) (log_of_held old publisher es before.files database.is database.held)) read stays.first
        (made_on old.log.file (commit_calls old.log.file (gate_of old.log) framed) before.happened now.happened done (refl, (refl, (refl, (refl, tt)))) made)

    -- of a history for which the files stand there, the entry is the last, and without it the old value was its database
    pub without_added : (before now : Seen) (r : Recorded) → HasLogInForce old before → CanCommit old entry r → OthersStay old.log.file before.files now.files
        → ((b : List (List ℕ)) → IsLog old.log b before.files → IsLog new.log (b ++ body_of framed ∷ []) now.files)
        → (publisher : Name) (es : List Recorded) (base : ℕ) → StandsFor publisher es base now.files → WasWithout old publisher es r before
    without_added before now r has can others log publisher es base stands =
        let there = has_log old.log before.files has.now in
        let all = there.bodies in
        let spelled : Spells new.log.base (all ++ body_of framed ∷ []) (bytes_of now.files new.log.file) = (log all there.is_log).spells in
        without old all r before now has there.is_log others
        (subst (λ (b : List ℕ). Spells old.log.base (all ++ b ∷ []) (bytes_of now.files old.log.file)) (body_is r can)
        (subst (λ (l : Log). Spells l.base (all ++ body_of framed ∷ []) (bytes_of now.files l.file)) log_is spelled))
        publisher es base stands (λ other others is. fits other others r is can)

    -- the log is in force there
    pub in_force_added : (before now : Seen) (r : Recorded) (done : Bool) → HasLogInForce old before → CanCommit old entry r → Made (commit_calls old.log.file (gate_of old.log) framed) before.happened now.happened done
        → OthersStay old.log.file before.files now.files → ((b : List (List ℕ)) → IsLog old.log b before.files → IsLog new.log (b ++ body_of framed ∷ []) now.files) → IsSettled (IsAsRead old.log.file now) now → DiskStays before now
        → HasLogInForce new now
    in_force_added before now r done has can made others log read stays =
        let there = has_log old.log before.files has.now in
        in_force_after old new before now (ap (λ (l : Log). l.file) log_is) (record { bodies = there.bodies ++ body_of framed ∷ []; is_log = log there.bodies there.is_log })
        has others read stays.first (made_on old.log.file (commit_calls old.log.file (gate_of old.log) framed) before.happened now.happened done (refl, (refl, (refl, (refl, tt)))) made)
        (λ publisher es base stands.
        let w = without_added before now r has can others log publisher es base stands in
        subst (λ (l : List Recorded). IsDatabase new publisher l now) (sym w.is) (database_added before now publisher w.first r done w.database can made others log read stays))

  -- whether it stands or not
  went_added : (before now : Seen) (publisher : Name) (es : List Recorded) (r : Recorded) (done : Bool) → new.log.file ≡ old.log.file → new.log.base ≡ old.log.base → IsDatabase old publisher es before → CanCommit old entry r
      → Made (commit_calls old.log.file (gate_of old.log) framed) before.happened now.happened done
      → ((b : List (List ℕ)) → IsLog old.log b before.files → IsSettled (IsLog old.log b) before → RestsThroughout (HasOrLacks old.log b framed) before now) → DiskStays before now
      → Went before now publisher es (commit r ∷ [])
  went_added before now publisher es r done file base database can made moments stays =
      went old new publisher es r framed before now database file base (stored_more publisher es r database.is.stored (fits publisher es r database.is can)) (body_is r can)
      (moments (bodies database.held.stands.left) (log_of_held old publisher es before.files database.is database.held) (log_settled old publisher es before database))
      (made_on old.log.file (commit_calls old.log.file (gate_of old.log) framed) before.happened now.happened done (refl, (refl, (refl, (refl, tt)))) made) stays (something (write old.log.file (gate_of old.log + 1) framed) (sync old.log.file ∷ write old.log.file (gate_of old.log) (1 ∷ []) ∷ sync old.log.file ∷ []) before.happened now.happened done made)

  -- in both cases it is the same file
  pub went_longer : (before now : Seen) (publisher : Name) (es : List Recorded) (r : Recorded) (done : Bool) → new.log ≡ longer old.log (length framed) → IsDatabase old publisher es before → CanCommit old entry r
      → Made (commit_calls old.log.file (gate_of old.log) framed) before.happened now.happened done
      → ((b : List (List ℕ)) → IsLog old.log b before.files → IsSettled (IsLog old.log b) before → RestsThroughout (HasOrLacks old.log b framed) before now) → DiskStays before now
      → Went before now publisher es (commit r ∷ [])
  went_longer before now publisher es r done log_is database can made moments stays =
      went_added before now publisher es r done (ap (λ (l : Log). l.file) log_is) (ap (λ (l : Log). l.base) log_is) database can made moments stays

  pub went_spent : (before now : Seen) (publisher : Name) (es : List Recorded) (r : Recorded) (done : Bool) → new.log ≡ spent old.log → IsDatabase old publisher es before → CanCommit old entry r
      → Made (commit_calls old.log.file (gate_of old.log) framed) before.happened now.happened done
      → ((b : List (List ℕ)) → IsLog old.log b before.files → IsSettled (IsLog old.log b) before → RestsThroughout (HasOrLacks old.log b framed) before now) → DiskStays before now
      → Went before now publisher es (commit r ∷ [])
  went_spent before now publisher es r done log_is database can made moments stays =
      went_added before now publisher es r done (ap (λ (l : Log). l.file) log_is) (ap (λ (l : Log). l.base) log_is) database can made moments stays
