-- A run that nothing stands in the way of, and how it ends.
use Rattle.std.specs.Prelude.{◌≡◌, ⊤, ℕ, List, IsTrue, Ok}
use Rattle.std.specs.Str.{IsUtf8}
use Rattle.sr_ast.specs.declared.stmt.Stmt.{Stmt}
use Rattle.sr_book.specs.Entries.{Name}
use Rattle.sr_database_files.specs.declared.fault.DatabaseFault.{DatabaseFault}
use Rattle.sr_database_files.specs.declared.fault.DatabaseFault.TheVariants as store
use Rattle.sr_parse_grammar.specs.Meanings.{IsWritten}
use Rattle.sr_database_history.specs.Folds.{state_of}
use Rattle.sr_database_history.specs.Recorded.{Recorded}
use Rattle.sr_session_script.specs.Scripts.{ran, finished}
use Rattle.sr_site.specs.Causes.{Rose}
use Rattle.sr_site.specs.Files.{Files}
use Rattle.sr_site.specs.Streams.{Input, Output}
use Rattle.sr_database_files.specs.Damage.{IsMissing}
use Rattle.sr_database_meaning.specs.Standing.{StandsAs}
use Rattle.dbremote_command.specs.Agents.{AgentRan, AgentStopped}
use Rattle.dbremote_command.specs.Outside.{Outside}
use Rattle.dbremote_command.specs.Running.{RanWhole, Stopped}
use Rattle.dbremote_command.specs.Runs.{HasAlarms, MadeAll, before_line}
use Rattle.dbremote_command.specs.Showing.{HasShown}
use Rattle.dbremote_command.specs.declared.fault.Fault.{Fault}
use Rattle.dbremote_command.specs.declared.fault.Fault.TheVariants.{Words, Database, Source, TooLong, Script, Statement, Sink, Mail}
use Rattle.dbremote_command.specs.declared.order.Order.{Order}
use Rattle.dbremote_command.specs.declared.order.Order.TheVariants.{Init, Sql, Agent, Show}

-- ---- nothing stands in the way

-- no count of faults rose: the disk, the mail, the source and the sink did all that was asked of them
pub record NoneFailed (old new : Outside) : Type 0 where
  pub disk : ¬ (Rose old.site.disk_faults new.site.disk_faults)
  pub mail : ¬ (Rose old.site.mail_faults new.site.mail_faults)
  pub source : ¬ (Rose old.input.faults new.input.faults)
  pub sink : ¬ (Rose old.output.faults new.output.faults)

-- the files are a database: they stand for some history
pub record AreDatabase (files : Files) : Type 0 where
  pub publisher : Name
  pub es : List Recorded
  pub stand : StandsAs publisher es files

-- what the source has left is a text that spells these statements
pub record HoldsScript (input : Input) (statements : List Stmt) : Type 0 where
  pub told : IsTrue input.observable
  pub text : IsUtf8 input.left
  pub written : IsWritten input.left statements

-- the files are a database, and the source holds a script of which, on what the history comes to, no statement is refused
pub record HoldsAccepted (old : Outside) : Type 0 where
  pub publisher : Name
  pub es : List Recorded
  pub stand : StandsAs publisher es old.site.files
  pub statements : List Stmt
  pub script : HoldsScript old.input statements
  pub accepted : (ran (state_of publisher es) statements).end ≡ finished

-- what is there is what the order asks for: no database for `init`, and one for all others, with a script that it accepts for `sql`
abbrev pub MeetsOrder : Order → Outside → Type 0
MeetsOrder (Init name user) old = IsMissing old.site.files
MeetsOrder (Sql name) old = HoldsAccepted old
MeetsOrder (Show name) old = AreDatabase old.site.files
MeetsOrder (Agent name mail options) old = AreDatabase old.site.files

-- ---- how it ends

-- all that the order asks for was done
abbrev pub DidAll : Order → Outside → Outside → Type 0
DidAll (Init name user) old new = MadeAll name user old new 0
DidAll (Sql name) old new = RanWhole name old new
DidAll (Show name) old new = HasShown name old.site new.site old.output new.output
DidAll (Agent name mail options) old new = AgentRan name mail options old new (Ok 0)

-- a database's fault is a limit: the log has no room for an entry, or an entry is too long
abbrev pub IsStoreLimit : DatabaseFault → Type 0
IsStoreLimit store.Missing = ⊥
IsStoreLimit store.Exists = ⊥
IsStoreLimit (store.Damaged file at) = ⊥
IsStoreLimit store.Disk = ⊥
IsStoreLimit (store.Full end need) = ⊤
IsStoreLimit (store.Long size limit) = ⊤
IsStoreLimit store.Memory = ⊥

-- a fault is a limit: of the log, of an entry, or of a script's length
abbrev pub IsLimit : Fault → Type 0
IsLimit Words = ⊥
IsLimit (Database fault) = IsStoreLimit fault
IsLimit Source = ⊥
IsLimit TooLong = ⊤
IsLimit (Script at) = ⊥
IsLimit (Statement number fault) = ⊥
IsLimit Sink = ⊥
IsLimit Mail = ⊥

-- a limit ended the run, and it has its cause: its numbers are those of the fault
pub record MetLimit (stops : Outside → Fault → Type 0) (new : Outside) : Type 0 where
  pub fault : Fault
  pub between : Output
  pub limit : IsLimit fault
  pub stopped : stops (before_line new between) fault

-- only a script and the agent meet one
abbrev pub HasLimit : Order → Outside → Outside → Type 0
HasLimit (Init name user) old new = ⊥
HasLimit (Sql name) old new = MetLimit (Stopped name old) new
HasLimit (Show name) old new = ⊥
HasLimit (Agent name mail options) old new = MetLimit (AgentStopped name mail options old) new

-- the run is done: all of it; or all of it with something amiss that its lines tell; or up to a limit; or as far as there was memory
pub data EndedWell (order : Order) (old new : Outside) (status : ℕ) : Type 0 where
  whole : status ≡ 0 → DidAll order old new → EndedWell order old new status
  amiss : status ≡ 1 → HasAlarms order old new → EndedWell order old new status
  at_limit : status ≡ 9 → HasLimit order old new → EndedWell order old new status
  no_memory : status ≡ 8 → EndedWell order old new status

-- where nothing stands in its way, a run is done
abbrev pub IsComplete : Order → Outside → Outside → ℕ → Type 0
IsComplete order old new status = IsTrue old.site.observable → MeetsOrder order old → NoneFailed old new → EndedWell order old new status
