-- The steps of a restart before the passes of a run.
-- Here is what no contract of the program says by itself.
use Rattle.std.specs.Prelude.{◌≡◌, ⊤, ℕ, true, List, [], ◌∷◌, IsTrue, Err, IfOk, OnOk, Result}
use Rattle.sr_agent.specs.Agents.{Did}
use Rattle.sr_agent.specs.declared.options.Options.{Options}
use Rattle.sr_book.specs.Entries.{Name}
use Rattle.sr_database.specs.Databases.{IsDatabase}
use Rattle.sr_database.specs.InForce.{HasLogInForce}
use Rattle.sr_database.specs.Views.{View}
use Rattle.sr_database_files.specs.declared.fault.DatabaseFault.{DatabaseFault}
use Rattle.sr_database_files.specs.declared.fault.DatabaseFault.TheVariants as store
use Rattle.sr_database_history.specs.Recorded.{Recorded}
use Rattle.sr_send_needs.specs.Inner.Ends.{IsEndOf}
use Rattle.sr_send_needs.specs.declared.fault.NeedFault.{NeedFault}
use Rattle.sr_send_needs.specs.declared.fault.NeedFault.TheVariants as needs
use Rattle.sr_site.specs.Causes.{DiskStays, Rose}
use Rattle.sr_site.specs.Seen.{Seen}
use Rattle.sr_site.specs.Streams.{Output}
use Rattle.sr_agent.specs.Ends.{Ended, IsUsableEnd}
use Rattle.sr_agent.specs.Lines.{Line, lines_text, restarted, alarms}
use Rattle.sr_agent.specs.Restarts.{BegunAnew, BegunInPart, HasRestarted, RestartStop}
use Rattle.sr_agent.specs.Inner.Steps.{Told}
use Rattle.sr_agent.specs.declared.fault.AgentFault.{AgentFault}
use Rattle.sr_agent.specs.declared.fault.AgentFault.TheVariants.{Disk, Mail, Sink, Full, Long, Memory}

-- the database can be used and has no pending change, and its log is the one in force
pub record CanRun (view : View) (seen : Seen) : Type 0 where
  pub usable : view.log.usable ≡ true
  pub idle : view.pending ≡ []
  pub stands : IsTrue seen.observable → HasLogInForce view seen

-- ---- faults

-- the refusals of a restart
abbrev pub IsRestartRefusal : DatabaseFault → Type 0
IsRestartRefusal store.Missing = ⊥
IsRestartRefusal store.Exists = ⊥
IsRestartRefusal (store.Damaged file at) = ⊤
IsRestartRefusal store.Disk = ⊤
IsRestartRefusal (store.Full end need) = ⊥
IsRestartRefusal (store.Long size limit) = ⊤
IsRestartRefusal store.Memory = ⊤

-- a record reads as damaged: that is passed over
abbrev pub IsPassedOver : DatabaseFault → Type 0
IsPassedOver store.Missing = ⊥
IsPassedOver store.Exists = ⊥
IsPassedOver (store.Damaged file at) = ⊤
IsPassedOver store.Disk = ⊥
IsPassedOver (store.Full end need) = ⊥
IsPassedOver (store.Long size limit) = ⊥
IsPassedOver store.Memory = ⊥

-- any other ends the run
abbrev pub EndsBy : DatabaseFault → AgentFault → Type 0
EndsBy store.Missing why = ⊥
EndsBy store.Exists why = ⊥
EndsBy (store.Damaged file at) why = ⊥
EndsBy store.Disk why = why ≡ Disk
EndsBy (store.Full end need) why = ⊥
EndsBy (store.Long size limit) why = why ≡ Long size limit
EndsBy store.Memory why = why ≡ Memory

-- the same of a search for the least need
abbrev pub IsNeedPassedOver : NeedFault → Type 0
IsNeedPassedOver needs.Disk = ⊥
IsNeedPassedOver (needs.Damaged file at) = ⊤
IsNeedPassedOver needs.Memory = ⊥

abbrev pub EndsByNeed : NeedFault → AgentFault → Type 0
EndsByNeed needs.Disk why = why ≡ Disk
EndsByNeed (needs.Damaged file at) why = ⊥
EndsByNeed needs.Memory why = why ≡ Memory

-- what the counts of faults tell where a fault ended it
abbrev pub RestartCount : Seen → Seen → AgentFault → Type 0
RestartCount before now Disk = Rose before.disk_faults now.disk_faults
RestartCount before now Mail = ⊥
RestartCount before now Sink = ⊥
RestartCount before now (Full end need) = ⊥
RestartCount before now (Long size limit) = now.disk_faults ≡ before.disk_faults
RestartCount before now Memory = now.disk_faults ≡ before.disk_faults

-- ---- the log begun anew at an offset

-- it was, or a record reads as damaged; that is only where no history of the value has an end there
pub record BeginsAt (keep : ℕ) (old new : View) (before now : Seen) : Type 0 where
  pub can : CanRun new now
  pub stays : DiskStays before now
  pub steady : now.disk_faults ≡ before.disk_faults
  pub did : IsTrue before.observable → (publisher : Name) (es : List Recorded) → IsDatabase old publisher es before → IsEndOf es keep → BegunAnew publisher es keep old new before now

-- a fault came
pub record BreaksAt (keep : ℕ) (old new : View) (before now : Seen) (fault : AgentFault) : Type 0 where
  pub idle : new.pending ≡ []
  pub usable : IsUsableEnd new (Err fault)
  pub stays : DiskStays before now
  pub count : RestartCount before now fault
  pub did : IsTrue before.observable → (publisher : Name) (es : List Recorded) → IsDatabase old publisher es before → IsEndOf es keep → BegunInPart publisher es keep old new before now fault

-- ---- where the least need lies

pub record Restarts (old new : View) (before now : Seen) : Type 0 where
  pub can : CanRun new now
  pub stays : DiskStays before now
  pub steady : now.disk_faults ≡ before.disk_faults
  pub did : IsTrue before.observable → (publisher : Name) (es : List Recorded) → IsDatabase old publisher es before → HasRestarted publisher es old new before now

pub record RestartBroken (old new : View) (before now : Seen) (fault : AgentFault) : Type 0 where
  pub idle : new.pending ≡ []
  pub usable : IsUsableEnd new (Err fault)
  pub stays : DiskStays before now
  pub count : RestartCount before now fault
  pub did : IsTrue before.observable → (publisher : Name) (es : List Recorded) → IsDatabase old publisher es before → RestartStop publisher es old new before now [] fault

-- ---- and told

-- the base that stands was told
pub record RestartTold (old new : View) (before now : Seen) (written written' : Output) : Type 0 where
  pub restarts : Restarts old new before now
  pub told : Told (lines_text (restarted new.log.base ∷ [])) written written'

-- a fault ended the run before its passes
pub record RunUnbegun (old new : View) (before now : Seen) (written written' : Output) (fault : AgentFault) : Type 0 where
  pub lines : List Line
  pub ended : Ended new before now written written' lines (Err fault)
  pub did : IsTrue before.observable → (publisher : Name) (es : List Recorded) → IsDatabase old publisher es before → RestartStop publisher es old new before now lines fault

-- what the passes of a run came to, behind a restart or without one
pub record RanPasses (old new : View) (before now : Seen) (written written' : Output) (options : Options) (result : Result ℕ AgentFault) : Type 0 where
  pub lines : List Line
  pub ended : Ended new before now written written' lines result
  pub count : IfOk result (λ n. n ≡ alarms lines)
  -- also where no history leads to the value
  pub in_force : OnOk result (IsTrue before.observable → HasLogInForce old before → HasLogInForce new now)
  pub did : IsTrue before.observable → (publisher : Name) (es : List Recorded) → IsDatabase old publisher es before → Did old.log.base new before now written written' publisher es options lines result
