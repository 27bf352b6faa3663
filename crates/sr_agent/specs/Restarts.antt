-- What a run with a restart does before its passes: the log is begun anew where the least need of all partners lies.
use Rattle.std.specs.Prelude.{◌≡◌, ◌⊎◌, ⊤, ℕ, List, [], ◌∷◌}
use Rattle.sr_book.specs.Entries.{Name}
use Rattle.sr_database.specs.Databases.{IsDatabase}
use Rattle.sr_database.specs.Restarts.{BeginsAnew, IsTooLongAt}
use Rattle.sr_database.specs.Views.{View}
use Rattle.sr_database_history.specs.Recorded.{Recorded}
use Rattle.sr_database_meaning.specs.Generations.{generation_of}
use Rattle.sr_database_meaning.specs.Restarts.{StandsAtEither, MayGoOver, IsQuiet}
use Rattle.sr_send_needs.specs.Needs.{least_need}
use Rattle.sr_site.specs.Causes.{DiskStays}
use Rattle.sr_site.specs.Images.{RestsThroughout}
use Rattle.sr_site.specs.Seen.{Seen}
use Rattle.sr_agent.specs.Lines.{Line, restarted}
use Rattle.sr_agent.specs.declared.fault.AgentFault.{AgentFault}
use Rattle.sr_agent.specs.declared.fault.AgentFault.TheVariants.{Disk, Mail, Sink, Full, Long, Memory}

-- ---- to the end

-- the log of the database of a history was begun anew at an offset: the value goes on with it, and is the database of the same history. At each moment every crash leaves files that
-- stand for it, with a log from the old base or from the new one, and while the root is not synced both generations do. Nothing happened to the mail
pub record BegunAnew (publisher : Name) (es : List Recorded) (keep : ℕ) (old new : View) (before now : Seen) : Type 0 where
  pub value : BeginsAnew keep old new
  pub database : IsDatabase new publisher es now
  pub moments : RestsThroughout (StandsAtEither publisher es old.log.base keep) before now
  pub both : MayGoOver (generation_of old.log.file) publisher es old.log.base keep before now
  pub quiet : IsQuiet before.happened now.happened
  pub stays : DiskStays before now
  pub steady : now.disk_faults ≡ before.disk_faults

-- where the least need of all partners lies: all that is needed lies past it
abbrev pub HasRestarted : Name → List Recorded → View → View → Seen → Seen → Type 0
HasRestarted publisher es old new before now = BegunAnew publisher es (least_need publisher es old.log.base) old new before now

-- ---- and not

-- nothing happened
pub record IsUnmoved (before now : Seen) : Type 0 where
  pub stays : DiskStays before now
  pub files : now.files ≡ before.files
  pub happened : now.happened ≡ before.happened

-- the value is as it was, and the database of the history as it was
pub record IsLeft (publisher : Name) (es : List Recorded) (old new : View) (now : Seen) : Type 0 where
  pub same : new ≡ old
  pub database : IsDatabase new publisher es now

-- what is left behind a fault: where it is not the disk's all is as it was; where the snapshot would be too long, nothing was written
abbrev pub LeftBy : Name → List Recorded → ℕ → View → View → Seen → Seen → AgentFault → Type 0
LeftBy publisher es keep old new before now Disk = ⊤
LeftBy publisher es keep old new before now Mail = ⊥
LeftBy publisher es keep old new before now Sink = ⊥
LeftBy publisher es keep old new before now (Full end need) = ⊥
LeftBy publisher es keep old new before now (Long size limit) = IsLeft publisher es old new now × IsTooLongAt old keep before size limit × IsUnmoved before now
LeftBy publisher es keep old new before now Memory = IsLeft publisher es old new now

-- a fault came as the log was begun anew at an offset: it begins there or where it did
pub record BegunInPart (publisher : Name) (es : List Recorded) (keep : ℕ) (old new : View) (before now : Seen) (fault : AgentFault) : Type 0 where
  pub moments : RestsThroughout (StandsAtEither publisher es old.log.base keep) before now
  pub both : MayGoOver (generation_of old.log.file) publisher es old.log.base keep before now
  pub quiet : IsQuiet before.happened now.happened
  pub stays : DiskStays before now
  pub left : LeftBy publisher es keep old new before now fault

-- a fault ended the run before its passes
pub data RestartStop (publisher : Name) (es : List Recorded) (old new : View) (before now : Seen) (lines : List Line) (fault : AgentFault) : Type 0 where
  -- the least need was being sought
  searching : IsLeft publisher es old new now → IsUnmoved before now → lines ≡ [] → (fault ≡ Disk) ⊎ (fault ≡ Memory) → RestartStop publisher es old new before now lines fault
  -- the log was being begun anew there
  restarting : BegunInPart publisher es (least_need publisher es old.log.base) old new before now fault → lines ≡ [] → RestartStop publisher es old new before now lines fault
  -- it was begun anew, and that was not told, since the sink failed
  untold : HasRestarted publisher es old new before now → lines ≡ restarted new.log.base ∷ [] → fault ≡ Sink → RestartStop publisher es old new before now lines fault
