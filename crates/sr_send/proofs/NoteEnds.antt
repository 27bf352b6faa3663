-- The note of messages, committed or not.
use Rattle.std.proofs.Common.{◌≡◌, ℕ, ◌≤◌, List, [], ◌∷◌, ◌++◌, length, Result, Ok, Err, refl, sym, subst, arith}
use Rattle.std.specs.Prelude.{IsTrue, IsSome, IfErr, OnOk, true}
use Rattle.std.proofs.lemmas.List.{length-append}
use Rattle.sr_base.specs.Fields.{name_spelling}
use Rattle.sr_base.specs.declared.offset.Offset.{Offset}
use Rattle.sr_book.specs.Entries.{Name}
use Rattle.sr_book.specs.declared.note.Note.{Note}
use Rattle.sr_book.specs.declared.note.Note.TheVariants.{Sent as sent_up_to}
use Rattle.sr_database.specs.Inner.Causes.{CommitCause, IsBegun}
use Rattle.sr_database.specs.Commits.{HasRoom, IsLong}
use Rattle.sr_database.specs.Inner.Commits.{CanCommit, CanCommitSome}
use Rattle.sr_database.specs.Databases.{IsDatabase}
use Rattle.sr_database.specs.Inner.Without.{WasWithout}
use Rattle.sr_database.specs.Advances.{Advances}
use Rattle.sr_database.specs.InForce.{HasLogInForce}
use Rattle.sr_database.specs.Views.{View}
use Rattle.sr_database_files.specs.declared.fault.DatabaseFault.{DatabaseFault}
use Rattle.sr_database_files.specs.declared.fault.DatabaseFault.TheVariants as store
use Rattle.sr_database_history.specs.Fitting.{FitsState}
use Rattle.sr_database_history.specs.Recorded.{Recorded, note}
use Rattle.sr_logform.specs.Entries.{entry_spelling}
use Rattle.sr_logform.specs.Outcomes.{note_spelling}
use Rattle.sr_logform.specs.declared.entry.Entry.{Entry}
use Rattle.sr_logform.specs.declared.entry.Entry.TheVariants as entries
use Rattle.sr_catalog_schema.specs.Members.{user_name}
use Rattle.sr_catalog_schema.specs.Names.{named}
use Rattle.sr_site.specs.Seen.{Seen}
use Rattle.sr_database_meaning.specs.Events.{commit}
use Rattle.sr_database_meaning.specs.Standing.{StandsFor}
use Rattle.sr_database_meaning.specs.Traces.{Went}
use Rattle.sr_send.specs.Inner.Notes.{Noted, NoteCause, IsNoteRefusal, IsNotedAs}
use Rattle.sr_send.specs.declared.fault.SendFault.{SendFault}

-- a note of a user who is granted may be committed
pub can_note : (db : View) (user : Name) (what : Note) → db.pending ≡ [] → IsSome (named user_name user db.catalog.users) → CanCommit db (entries.Note user what) (note user what)
unfolding FitsState
can_note db user what none known = record { is = refl; meant = tt; short = tt; follows = (none, known) }

pub can_note_some : (db : View) (user : Name) (what : Note) → db.pending ≡ [] → IsSome (named user_name user db.catalog.users) → CanCommitSome db (entries.Note user what)
can_note_some db user what none known = record { r = note user what; can = can_note db user what none known }

-- what `commit` says of each entry that it may commit
abbrev pub WentIf : View → Seen → Seen → Name → Note → Type 0 → Type 0
WentIf old before now user what begun = IsTrue before.observable → (publisher : Name) (es : List Recorded) (r : Recorded) → IsDatabase old publisher es before → CanCommit old (entries.Note user what) r → begun
    → Went before now publisher es (commit r ∷ [])

pub not_noted : (old new : View) (before now : Seen) (user : Name) (what : Note) (fault : DatabaseFault) (answer : Result (Unit {0}) SendFault) → CanCommit old (entries.Note user what) (note user what)
    → CommitCause old new (entries.Note user what) before now fault → WentIf old before now user what (IsBegun (Err fault)) → IsNotedAs (Err fault) answer → IfErr answer (NoteCause old new before now (note user what))
not_noted old new before now user what store.Missing answer can cause went noted = absurd noted
not_noted old new before now user what store.Exists answer can cause went noted = absurd noted
not_noted old new before now user what (store.Damaged file at) answer can cause went noted = absurd noted
not_noted old new before now user what store.Disk answer can cause went noted =
    subst (λ (r : Result (Unit {0}) SendFault). IfErr r (NoteCause old new before now (note user what))) (sym noted)
    (cause.0, cause.1, λ told publisher es database. went told publisher es (note user what) database can tt)
not_noted old new before now user what (store.Full end need) answer can cause went noted = subst (λ (r : Result (Unit {0}) SendFault). IfErr r (NoteCause old new before now (note user what))) (sym noted) cause
not_noted old new before now user what (store.Long size limit) answer can cause went noted = absurd noted
not_noted old new before now user what store.Memory answer can cause went noted = subst (λ (r : Result (Unit {0}) SendFault). IfErr r (NoteCause old new before now (note user what))) (sym noted) cause

-- a fault is no answer that it was noted
not_done : (fault : DatabaseFault) (answer : Result (Unit {0}) SendFault) (holds : Type 0) → IsNotedAs (Err fault) answer → OnOk answer holds
not_done store.Missing answer holds noted = absurd noted
not_done store.Exists answer holds noted = absurd noted
not_done (store.Damaged file at) answer holds noted = absurd noted
not_done store.Disk answer holds noted = subst (λ (r : Result (Unit {0}) SendFault). OnOk r holds) (sym noted) tt
not_done (store.Full end need) answer holds noted = subst (λ (r : Result (Unit {0}) SendFault). OnOk r holds) (sym noted) tt
not_done (store.Long size limit) answer holds noted = absurd noted
not_done store.Memory answer holds noted = subst (λ (r : Result (Unit {0}) SendFault). OnOk r holds) (sym noted) tt

-- ---- what a commit of a note may be refused with

-- the note's tag, the name with its length, and the note: the messages' last offset, their number and the offset that they confirm
pub note_short : (user : Name) (end confirm : Offset) (put : ℕ) → length user ≤ 64 → ¬ (IsLong (entries.Note user (sent_up_to end put confirm)))
unfolding entry_spelling note_spelling
note_short user end confirm put short long =
    let what : length (note_spelling (sent_up_to end put confirm)) ≡ 21 = refl in
    omega (arith, long, short, what, length-append (name_spelling user) (note_spelling (sent_up_to end put confirm)))

pub note_refused : (old new : View) (before now : Seen) (entry : Entry) (outcome : Result Offset DatabaseFault) → ¬ (IsLong entry) → IfErr outcome (CommitCause old new entry before now) → IfErr outcome IsNoteRefusal
note_refused old new before now entry (Ok offset) short cause = tt
note_refused old new before now entry (Err store.Missing) short cause = absurd cause
note_refused old new before now entry (Err store.Exists) short cause = absurd cause
note_refused old new before now entry (Err (store.Damaged file at)) short cause = absurd cause
note_refused old new before now entry (Err store.Disk) short cause = tt
note_refused old new before now entry (Err (store.Full end need)) short cause = tt
note_refused old new before now entry (Err (store.Long size limit)) short cause = absurd (short cause.0.long)
note_refused old new before now entry (Err store.Memory) short cause = tt

-- what `commit` says
pub record CommitSays (old new : View) (before now : Seen) (entry : Entry) (result : Result Offset DatabaseFault) : Type 0 where
  pub ready : OnOk result ((new.log.usable ≡ true) × (new.pending ≡ []))
  pub value : (r : Recorded) → CanCommit old entry r → OnOk result (Advances old new (r ∷ []))
  pub in_force : IsTrue before.observable → OnOk result (HasLogInForce new now)
  pub database : IsTrue before.observable → (publisher : Name) (es : List Recorded) (r : Recorded) → IsDatabase old publisher es before → CanCommit old entry r → OnOk result (IsDatabase new publisher (es ++ r ∷ []) now)
  pub without : IsTrue before.observable → (publisher : Name) (es : List Recorded) (base : ℕ) (r : Recorded) → CanCommit old entry r → OnOk result (StandsFor publisher es base now.files → WasWithout old publisher es r before)
  pub went : IsTrue before.observable → (publisher : Name) (es : List Recorded) (r : Recorded) → IsDatabase old publisher es before → CanCommit old entry r → IsBegun result → Went before now publisher es (commit r ∷ [])
  pub room : OnOk result (HasRoom old.log entry)
  pub steady : OnOk result (now.disk_faults ≡ before.disk_faults)
  pub cause : IfErr result (CommitCause old new entry before now)

pub noted_answer : (old new : View) (before now : Seen) (user : Name) (what : Note) (entry : Entry) (outcome : Result Offset DatabaseFault) (answer : Result (Unit {0}) SendFault) → old.pending ≡ []
    → IsSome (named user_name user old.catalog.users) → entry ≡ entries.Note user what → CommitSays old new before now entry outcome → IsNotedAs outcome answer → OnOk answer (Noted old new before now (note user what))
noted_answer old new before now user what entry (Ok offset) answer none known is says noted =
    let can : CanCommit old entry (note user what) = subst (λ (e : Entry). CanCommit old e (note user what)) (sym is) (can_note old user what none known) in
    let done : Noted old new before now (note user what) = record {
      usable = says.ready.0;
      pending = says.ready.1;
      room = subst (λ (e : Entry). HasRoom old.log e) is says.room;
      steady = says.steady;
      value = says.value (note user what) can;
      in_force = says.in_force;
      database = λ told publisher es database. says.database told publisher es (note user what) database can;
      without = λ told publisher es base stands. says.without told publisher es base (note user what) can stands;
      went = λ told publisher es database. says.went told publisher es (note user what) database can tt;
    } in
    subst (λ (r : Result (Unit {0}) SendFault). OnOk r (Noted old new before now (note user what))) (sym noted) done
noted_answer old new before now user what entry (Err fault) answer none known is says noted = not_done fault answer (Noted old new before now (note user what)) noted

pub cause_answer : (old new : View) (before now : Seen) (user : Name) (what : Note) (entry : Entry) (outcome : Result Offset DatabaseFault) (answer : Result (Unit {0}) SendFault) → old.pending ≡ []
    → IsSome (named user_name user old.catalog.users) → entry ≡ entries.Note user what → CommitSays old new before now entry outcome → IsNotedAs outcome answer → IfErr answer (NoteCause old new before now (note user what))
cause_answer old new before now user what entry (Ok offset) answer none known is says noted = subst (λ (r : Result (Unit {0}) SendFault). IfErr r (NoteCause old new before now (note user what))) (sym noted) tt
cause_answer old new before now user what entry (Err fault) answer none known is says noted =
    let can = can_note old user what none known in
    not_noted old new before now user what fault answer can (subst (λ (e : Entry). CommitCause old new e before now fault) is says.cause)
    (λ told publisher es r database may begun. says.went told publisher es r database (subst (λ (e : Entry). CanCommit old e r) (sym is) may) begun) noted
