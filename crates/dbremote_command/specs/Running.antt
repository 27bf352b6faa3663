-- What `sql` does.
use Rattle.std.specs.Prelude.{◌≡◌, ◌⊎◌, ℕ, ◌<◌, ◌≤◌, List, [], length, IsTrue, Result, Ok, Err}
use Rattle.std.specs.Str.{IsUtf8}
use Rattle.sr_ast.specs.declared.stmt.Stmt.{Stmt}
use Rattle.sr_base.specs.Refusals.{IsNotUtf8}
use Rattle.sr_base.specs.declared.refusals.NotUtf8.TheVariants as utf8
use Rattle.sr_book.specs.Entries.{Name}
use Rattle.sr_database.specs.Databases.{IsDatabase}
use Rattle.sr_database.specs.InForce.{HasLogInForce}
use Rattle.sr_database.specs.Views.{View}
use Rattle.sr_database_files.specs.declared.fault.DatabaseFault.{DatabaseFault}
use Rattle.sr_database_files.specs.declared.fault.DatabaseFault.TheVariants as store
use Rattle.sr_parse_grammar.specs.Meanings.{IsWritten}
use Rattle.sr_parse_grammar.specs.Places.{IsRefusedAt}
use Rattle.sr_database_history.specs.Recorded.{Recorded}
use Rattle.sr_session.specs.Runs.{RanScript}
use Rattle.sr_session.specs.declared.fault.SessionFault.{SessionFault}
use Rattle.sr_session.specs.declared.fault.SessionFault.TheVariants as session
use Rattle.sr_site.specs.Causes.{DiskStays, Rose}
use Rattle.sr_site.specs.Images.{IsImage, RestsThroughout}
use Rattle.sr_site.specs.Seen.{Seen}
use Rattle.sr_site.specs.Streams.{Input}
use Rattle.sr_database_files.specs.Damage.{IsMissing, IsDamagedAt}
use Rattle.sr_database_meaning.specs.Standing.{StandsAs}
use Rattle.dbremote_command.specs.Limits.{most_script}
use Rattle.dbremote_command.specs.Outside.{Outside, IsAttached, HasRead}
use Rattle.dbremote_command.specs.declared.fault.Fault.{Fault}
use Rattle.dbremote_command.specs.declared.fault.Fault.TheVariants.{Words, Database, Source, TooLong, Script, Statement, Sink, Mail}

-- no file was changed, and at each moment a crash leaves what it could have left at first
pub record IsUntouched (before now : Seen) : Type 0 where
  pub files : IsTrue before.observable → now.files ≡ before.files
  pub moments : IsTrue before.observable → RestsThroughout (IsImage before) before now

-- the value is the database of each history for which the files stood before; and its log is in force, also where they stood for none
pub record HasHistory (view : View) (before now : Seen) : Type 0 where
  pub each : (publisher : Name) (es : List Recorded) → StandsAs publisher es before.files → IsDatabase view publisher es now
  pub in_force : HasLogInForce view now

-- a database was opened: where its files tell, it is that of each history for which the files of this name stand, and every crash leaves it. The mail was left
-- alone
pub record IsOpened (name mail : List ℕ) (view : View) (before now : Seen) : Type 0 where
  pub attached : IsAttached name mail before now
  pub steady : now.disk_faults ≡ before.disk_faults
  pub no_mail : DiskStays before now
  pub history : IsTrue before.observable → HasHistory view before now
  pub untouched : IsUntouched before now

-- the source held a script, and this is it
pub record IsScript (old new : Input) (statements : List Stmt) : Type 0 where
  pub text : List ℕ
  pub read : HasRead old new text
  pub short : length text ≤ most_script
  pub written : IsWritten text statements

-- bytes are no script: they are no UTF-8 from this byte on, or no script goes on with what begins there
abbrev pub BreaksAt : List ℕ → ℕ → Type 0
BreaksAt text at = IsNotUtf8 text (utf8.Byte at) ⊎ (IsUtf8 text × IsRefusedAt text at)

-- what the source had left is no script
pub record IsNoScript (old new : Input) (at : ℕ) : Type 0 where
  pub text : List ℕ
  pub read : HasRead old new text
  pub short : length text ≤ most_script
  pub why : BreaksAt text at

-- why a database is not opened: but for the disk's refusal no call of the disk failed
abbrev pub OpenedCause : Seen → Seen → DatabaseFault → Type 0
OpenedCause before now store.Missing = (IsTrue before.observable → IsMissing before.files) × (now.disk_faults ≡ before.disk_faults)
OpenedCause before now store.Exists = ⊥
OpenedCause before now (store.Damaged file at) = (IsTrue before.observable → IsDamagedAt file at before.files) × (now.disk_faults ≡ before.disk_faults)
OpenedCause before now store.Disk = Rose before.disk_faults now.disk_faults
OpenedCause before now (store.Full end need) = ⊥
OpenedCause before now (store.Long size limit) = ⊥
OpenedCause before now store.Memory = now.disk_faults ≡ before.disk_faults

-- nothing was read of the source, but where there was no memory to read all of it: then no read failed
abbrev pub IsUnread : Input → Input → DatabaseFault → Type 0
IsUnread old new store.Missing = new ≡ old
IsUnread old new store.Exists = new ≡ old
IsUnread old new (store.Damaged file at) = new ≡ old
IsUnread old new store.Disk = new ≡ old
IsUnread old new (store.Full end need) = new ≡ old
IsUnread old new (store.Long size limit) = new ≡ old
IsUnread old new store.Memory = new.faults ≡ old.faults

-- a database was opened
pub record HasOpened (name : List ℕ) (before now : Seen) : Type 0 where
  pub view : View
  pub is : IsOpened name [] view before now

-- why a fault comes before the first statement. The database is opened before anything is read
abbrev pub BeginCause : List ℕ → Outside → Outside → Fault → Type 0
BeginCause name old new Words = ⊥
BeginCause name old new (Database fault) = OpenedCause old.site new.site fault × IsUnread old.input new.input fault
BeginCause name old new Source = Rose old.input.faults new.input.faults × HasOpened name old.site new.site
BeginCause name old new TooLong = (IsTrue old.input.observable → most_script < length old.input.left) × (new.input.faults ≡ old.input.faults) × HasOpened name old.site new.site
BeginCause name old new (Script at) = IsNoScript old.input new.input at × HasOpened name old.site new.site
BeginCause name old new (Statement number fault) = ⊥
BeginCause name old new Sink = ⊥
BeginCause name old new Mail = ⊥

-- a fault came before the first statement: no file was changed, and nothing was written
pub record StoppedBefore (name : List ℕ) (old new : Outside) (fault : Fault) : Type 0 where
  pub untouched : IsUntouched old.site new.site
  pub silent : new.output ≡ old.output
  pub cause : BeginCause name old new fault

-- a script ran on the database that was opened, to this result
pub record RanOn (name : List ℕ) (old new : Outside) (result : Result ℕ SessionFault) : Type 0 where
  pub opened : Seen
  pub view : View
  pub view' : View
  pub statements : List Stmt
  pub is : IsOpened name [] view old.site opened
  pub script : IsScript old.input new.input statements
  pub ran : RanScript view view' opened new.site old.output new.output statements result

-- the fault of a script's run
abbrev pub fault_of : SessionFault → Fault
fault_of (session.Statement number fault) = Statement number fault
fault_of (session.Store fault) = Database fault
fault_of session.Sink = Sink
fault_of session.Memory = Database store.Memory

-- a fault ended a script's run
pub record StoppedAfter (name : List ℕ) (old new : Outside) (fault : Fault) : Type 0 where
  pub why : SessionFault
  pub fault_is : fault ≡ fault_of why
  pub ran : RanOn name old new (Err why)

-- `sql` up to the line of the fault that ended it, if one did
pub record RanWhole (name : List ℕ) (old new : Outside) : Type 0 where
  pub count : ℕ
  pub ran : RanOn name old new (Ok count)

abbrev pub Stopped : List ℕ → Outside → Outside → Fault → Type 0
Stopped name old new fault = StoppedBefore name old new fault ⊎ StoppedAfter name old new fault
