-- What a run does, by its words.
use Rattle.std.specs.Prelude.{◌≡◌, ◌≢◌, ◌⊎◌, ◌++◌, ℕ, List, [], IsTrue, Ok}
use Rattle.sr_book.specs.Entries.{Name}
use Rattle.sr_database_files.specs.declared.fault.DatabaseFault.TheVariants.{Memory}
use Rattle.sr_agent.specs.declared.options.Options.{Options}
use Rattle.sr_site.specs.Causes.{DiskStays}
use Rattle.sr_site.specs.Streams.{Output, OutputStays}
use Rattle.dbremote_command.specs.Agents.{AgentDone, AgentRan, AgentStopped}
use Rattle.dbremote_command.specs.Faults.{fault_line, status_of}
use Rattle.dbremote_command.specs.Making.{created_line, IsGuarded, IsMade, MakeCause}
use Rattle.dbremote_command.specs.Outside.{Outside, IsAttachTried, IsAttachTriedForHistory}
use Rattle.dbremote_command.specs.Reports.{HasNumbers, Wrote}
use Rattle.dbremote_command.specs.Running.{IsUntouched, RanWhole, Stopped}
use Rattle.dbremote_command.specs.Showing.{HasShown, ShowCause}
use Rattle.dbremote_command.specs.declared.fault.Fault.{Fault}
use Rattle.dbremote_command.specs.declared.fault.Fault.TheVariants.{Database}
use Rattle.dbremote_command.specs.declared.order.Order.{Order}
use Rattle.dbremote_command.specs.declared.order.Order.TheVariants.{Init, Sql, Agent, Show}

-- all of it, with another output
abbrev pub before_line : Outside → Output → Outside
before_line new between = record new { output = between }

-- a fault is told: its line is written, or a prefix of it where the sink fails, and the status is that of the fault. Where there is no memory
-- for the numbers in its line, want of memory is told in its place
pub record Told (fault : Fault) (between now : Output) (status : ℕ) : Type 0 where
  pub told : Fault
  pub told_is : (told ≡ fault) ⊎ ((told ≡ Database Memory) × HasNumbers fault)
  pub status_is : status ≡ status_of told
  pub written : IsTrue between.observable → Wrote (fault_line told) between now
  pub stays : OutputStays between now

-- a fault ended the run: this is so up to its line
pub record EndedBy (stops : Outside → Fault → Type 0) (new : Outside) (status : ℕ) : Type 0 where
  pub fault : Fault
  pub between : Output
  pub stopped : stops (before_line new between) fault
  pub line : Told fault between new.output status

-- `init` made the database and said so
pub record MadeAll (name : List ℕ) (user : Name) (old new : Outside) (status : ℕ) : Type 0 where
  pub status_is : status ≡ 0
  pub made : IsMade name user old.site new.site
  pub said : IsTrue old.output.observable → new.output.taken ≡ old.output.taken ++ created_line user
  pub steady : new.output.faults ≡ old.output.faults

-- `init NAME USER`
pub record RanInit (name : List ℕ) (user : Name) (old new : Outside) (status : ℕ) : Type 0 where
  pub tried : IsAttachTried name [] old.site new.site
  pub no_mail : DiskStays old.site new.site
  pub guarded : IsGuarded user old.site new.site
  pub input : new.input ≡ old.input
  pub ended : MadeAll name user old new status ⊎ EndedBy (λ now fault. MakeCause name user old.site now.site old.output now.output fault) new status

-- `sql` ran its script to the last statement
pub record RanAll (name : List ℕ) (old new : Outside) (status : ℕ) : Type 0 where
  pub status_is : status ≡ 0
  pub ran : RanWhole name old new

-- `sql NAME`
pub record RanSql (name : List ℕ) (old new : Outside) (status : ℕ) : Type 0 where
  pub tried : IsAttachTried name [] old.site new.site
  pub no_mail : DiskStays old.site new.site
  pub ended : RanAll name old new status ⊎ EndedBy (Stopped name old) new status

-- `show` printed all lines
pub record ShownAll (name : List ℕ) (old new : Outside) (status : ℕ) : Type 0 where
  pub status_is : status ≡ 0
  pub shown : HasShown name old.site new.site old.output new.output

-- `show NAME`: no file is changed, the mail is left alone, and nothing is read
pub record RanShow (name : List ℕ) (old new : Outside) (status : ℕ) : Type 0 where
  pub tried : IsAttachTried name [] old.site new.site
  pub no_mail : DiskStays old.site new.site
  pub untouched : IsUntouched old.site new.site
  pub input : new.input ≡ old.input
  pub ended : ShownAll name old new status ⊎ EndedBy (λ now fault. ShowCause name old.site now.site old.output now.output fault) new status

-- `agent NAME --mail FOLDER`, with these options
pub record RanAgentOrder (name mail : List ℕ) (options : Options) (old new : Outside) (status : ℕ) : Type 0 where
  pub tried : IsAttachTriedForHistory name mail old.site new.site
  pub input : new.input ≡ old.input
  pub ended : AgentDone name mail options old new status ⊎ EndedBy (AgentStopped name mail options old) new status

-- other words: nothing is touched, and they are refused; or there was no memory for the words of an order
pub record IsRefused (fault : Fault) (old new : Outside) (status : ℕ) : Type 0 where
  pub site : new.site ≡ old.site
  pub input : new.input ≡ old.input
  pub line : Told fault old.output new.output status

-- what a run does, by what its words ask for
abbrev pub RanOrder : Order → Outside → Outside → ℕ → Type 0
RanOrder (Init name user) old new status = RanInit name user old new status
RanOrder (Sql name) old new status = RanSql name old new status
RanOrder (Show name) old new status = RanShow name old new status
RanOrder (Agent name mail options) old new status = RanAgentOrder name mail options old new status

-- a run of the agent was asked for, which went to its end and told of something amiss
abbrev pub HasAlarms : Order → Outside → Outside → Type 0
HasAlarms (Init name user) old new = ⊥
HasAlarms (Sql name) old new = ⊥
HasAlarms (Show name) old new = ⊥
HasAlarms (Agent name mail options) old new = (count : ℕ) × (count ≢ 0) × AgentRan name mail options old new (Ok count)
