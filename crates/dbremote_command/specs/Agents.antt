-- What `agent` does.
use Rattle.std.specs.Prelude.{◌≡◌, ◌≢◌, ℕ, List, Result, Ok, Err}
use Rattle.sr_agent.specs.Agents.{RanAgent}
use Rattle.sr_agent.specs.declared.fault.AgentFault.{AgentFault}
use Rattle.sr_agent.specs.declared.options.Options.{Options}
use Rattle.sr_database.specs.Views.{View}
use Rattle.sr_database_files.specs.declared.fault.DatabaseFault.{DatabaseFault}
use Rattle.sr_site.specs.Causes.{DiskStays}
use Rattle.sr_site.specs.Seen.{Seen}
use Rattle.dbremote_command.specs.Faults.{fault_of_agent}
use Rattle.dbremote_command.specs.Outside.{Outside}
use Rattle.dbremote_command.specs.Running.{IsOpened, IsUntouched, OpenedCause}
use Rattle.dbremote_command.specs.declared.fault.Fault.{Fault}
use Rattle.dbremote_command.specs.declared.fault.Fault.TheVariants.{Database}

-- the database was opened, and the agent ran on it to this result
pub record AgentRan (name mail : List ℕ) (options : Options) (old new : Outside) (result : Result ℕ AgentFault) : Type 0 where
  pub opened : Seen
  pub view : View
  pub view' : View
  pub is : IsOpened name mail view old.site opened
  pub ran : RanAgent view view' opened new.site old.output new.output options result

-- it ran to its end: the status is 1 exactly where a line told of something amiss
pub record AgentDone (name mail : List ℕ) (options : Options) (old new : Outside) (status : ℕ) : Type 0 where
  pub count : ℕ
  pub ran : AgentRan name mail options old new (Ok count)
  pub none : count ≡ 0 → status ≡ 0
  pub some : count ≢ 0 → status ≡ 1

-- the database was not opened: no file was changed, the mail was left alone, and nothing was written
pub record AgentUnopened (name mail : List ℕ) (old new : Outside) (why : DatabaseFault) : Type 0 where
  pub untouched : IsUntouched old.site new.site
  pub no_mail : DiskStays old.site new.site
  pub silent : new.output ≡ old.output
  pub cause : OpenedCause old.site new.site why

-- a fault came before the agent ran, or as it did
pub data AgentStopped (name mail : List ℕ) (options : Options) (old new : Outside) (fault : Fault) : Type 0 where
  unopened : (why : DatabaseFault) → fault ≡ Database why → AgentUnopened name mail old new why → AgentStopped name mail options old new fault
  stopped : (why : AgentFault) → fault ≡ fault_of_agent why → AgentRan name mail options old new (Err why) → AgentStopped name mail options old new fault
