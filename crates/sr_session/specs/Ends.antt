-- How a script ends.
use Rattle.std.specs.Prelude.{◌≡◌, ℕ, List, [], ◌∷◌, ◌++◌, map, Result, Ok, Err}
use Rattle.sr_database_history.specs.Recorded.{Recorded, entry_of}
use Rattle.sr_database.specs.Causes.{IsTooFar, IsTooLong}
use Rattle.sr_database.specs.Views.{View}
use Rattle.sr_database_files.specs.declared.fault.DatabaseFault.{DatabaseFault}
use Rattle.sr_database_files.specs.declared.fault.DatabaseFault.TheVariants as store
use Rattle.sr_session_script.specs.Acts.{ScriptAct, commits}
use Rattle.sr_session_script.specs.Scripts.{ScriptRun, finished, refused}
use Rattle.sr_site.specs.Causes.{Rose}
use Rattle.sr_site.specs.Streams.{Output}
use Rattle.sr_session.specs.Said.{IsPrefix, WrotePrefix}
use Rattle.sr_session.specs.declared.fault.SessionFault.{SessionFault}
use Rattle.sr_session.specs.declared.fault.SessionFault.TheVariants.{Statement, Store, Sink, Memory}

-- the next act is the commit of an entry, of which this holds
pub record StopsAt (refuses : Recorded → Type 0) (acts whole : List ScriptAct) : Type 0 where
  pub entry : Recorded
  pub prefix : IsPrefix (acts ++ commits entry ∷ []) whole
  pub why : refuses entry

-- why the next entry is not committed: the disk refused it, it has no room in the log, or it is too long
abbrev pub StoreEnd : View → List ScriptAct → List ScriptAct → List Recorded → DatabaseFault → Type 0
StoreEnd new acts whole broken store.Missing = ⊥
StoreEnd new acts whole broken store.Exists = ⊥
StoreEnd new acts whole broken (store.Damaged file at) = ⊥
StoreEnd new acts whole broken store.Disk = StopsAt (λ r. broken ≡ r ∷ []) acts whole
StoreEnd new acts whole broken (store.Full end need) = (broken ≡ []) × StopsAt (λ r. IsTooFar new.log (entry_of r) end need) acts whole
StoreEnd new acts whole broken (store.Long size limit) = (broken ≡ []) × StopsAt (λ r. IsTooLong (entry_of r) size limit) acts whole
StoreEnd new acts whole broken store.Memory = ⊥

-- all of its acts were done
pub record DidAllActs (script : ScriptRun) (acts : List ScriptAct) (broken : List Recorded) : Type 0 where
  pub acts_are : script.acts ≡ acts
  pub none : broken ≡ []

-- how it ended, with these acts done: with its last statement; with the statement that is refused; at an entry that is not committed; by a
-- sink that failed; for want of memory
abbrev pub EndsAs : ScriptRun → ℕ → View → List ScriptAct → List Recorded → Result ℕ SessionFault → Type 0
EndsAs script count new acts broken (Ok number) = DidAllActs script acts broken × (script.end ≡ finished) × (number ≡ count)
EndsAs script count new acts broken (Err (Statement number fault)) = DidAllActs script acts broken × (script.end ≡ refused number fault)
EndsAs script count new acts broken (Err (Store fault)) = StoreEnd new acts script.acts broken fault
EndsAs script count new acts broken (Err Sink) = IsPrefix (acts ++ map commits broken) script.acts
EndsAs script count new acts broken (Err Memory) = (broken ≡ []) × IsPrefix acts script.acts

-- the sink's count of faults rose exactly where it ended the script
abbrev pub SinkEnd : Output → Output → Result ℕ SessionFault → Type 0
SinkEnd before now (Ok number) = now.faults ≡ before.faults
SinkEnd before now (Err (Statement number fault)) = now.faults ≡ before.faults
SinkEnd before now (Err (Store fault)) = now.faults ≡ before.faults
SinkEnd before now (Err Sink) = Rose before.faults now.faults
SinkEnd before now (Err Memory) = now.faults ≡ before.faults

-- what was written: the lines of what was done, or a prefix of them where the sink failed
abbrev pub Wrote : List ℕ → List ℕ → List ℕ → Result ℕ SessionFault → Type 0
Wrote text old new (Ok number) = new ≡ old ++ text
Wrote text old new (Err (Statement number fault)) = new ≡ old ++ text
Wrote text old new (Err (Store fault)) = new ≡ old ++ text
Wrote text old new (Err Sink) = WrotePrefix text old new
Wrote text old new (Err Memory) = new ≡ old ++ text
