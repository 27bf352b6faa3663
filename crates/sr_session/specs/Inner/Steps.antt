-- What is done of one statement.
use Rattle.std.specs.Prelude.{◌≡◌, ℕ, List, [], ◌++◌, Option, Result, Ok, Err}
use Rattle.sr_ast.specs.declared.stmt.Passthrough.{Passthrough}
use Rattle.sr_database_history.specs.Recorded.{Recorded}
use Rattle.sr_database.specs.Views.{View}
use Rattle.sr_database_files.specs.declared.fault.DatabaseFault.{DatabaseFault}
use Rattle.sr_session_script.specs.Acts.{ScriptAct, text_from}
use Rattle.sr_session_script.specs.Meaning.{Stepped, goes, stops}
use Rattle.sr_session_script.specs.declared.refusal.Refusal.{Refusal}
use Rattle.sr_site.specs.Seen.{Seen}
use Rattle.sr_session.specs.Ends.{StoreEnd}
use Rattle.sr_session.specs.Reached.{Reached}
use Rattle.sr_session.specs.Inner.Ready.{work_of}
use Rattle.sr_session.specs.Said.{IsPrefix}
use Rattle.sr_session.specs.declared.fault.StepFault.{StepFault}
use Rattle.sr_session.specs.declared.fault.StepFault.TheVariants.{Refused, Store, Memory}

-- the acts of a step
abbrev pub acts_in : Stepped → List ScriptAct
acts_in (goes acts w) = acts
acts_in (stops acts fault) = acts

-- so far the script came, and the lines of that were added to those that are kept
pub record Came (old new : View) (before now : Seen) (lines lines' : List ℕ) (acts : List ScriptAct) (broken : List Recorded) : Type 0 where
  pub reached : Reached old new before now acts broken
  pub said : lines' ≡ lines ++ text_from old.log.end acts

-- the step is done
pub record IsDoneStep (meant : Stepped) (old new : View) (before now : Seen) (lines lines' : List ℕ) (region : Option Passthrough) : Type 0 where
  pub acts : List ScriptAct
  pub is : meant ≡ goes acts (work_of new region)
  pub came : Came old new before now lines lines' acts []

-- the step is refused
pub record IsRefusedStep (meant : Stepped) (old new : View) (before now : Seen) (lines lines' : List ℕ) (fault : Refusal) : Type 0 where
  pub acts : List ScriptAct
  pub is : meant ≡ stops acts fault
  pub came : Came old new before now lines lines' acts []

-- an entry of the step is not committed
pub record IsStoppedStep (meant : Stepped) (old new : View) (before now : Seen) (lines lines' : List ℕ) (fault : DatabaseFault) : Type 0 where
  pub acts : List ScriptAct
  pub broken : List Recorded
  pub end : StoreEnd new acts (acts_in meant) broken fault
  pub came : Came old new before now lines lines' acts broken

-- there was no memory for all of the step
pub record IsShortStep (meant : Stepped) (old new : View) (before now : Seen) (lines lines' : List ℕ) : Type 0 where
  pub acts : List ScriptAct
  pub prefix : IsPrefix acts (acts_in meant)
  pub came : Came old new before now lines lines' acts []

-- what was done of a step, with the region behind it
abbrev pub Took : Stepped → View → View → Seen → Seen → List ℕ → List ℕ → Option Passthrough → Result (Unit {0}) StepFault → Type 0
Took meant old new before now lines lines' region (Ok done) = IsDoneStep meant old new before now lines lines' region
Took meant old new before now lines lines' region (Err (Refused fault)) = IsRefusedStep meant old new before now lines lines' fault
Took meant old new before now lines lines' region (Err (Store fault)) = IsStoppedStep meant old new before now lines lines' fault
Took meant old new before now lines lines' region (Err Memory) = IsShortStep meant old new before now lines lines'
