-- Why each call is refused, and what it leaves then.
-- Here is what no contract of the program says by itself.
use Rattle.std.specs.Prelude.{◌≡◌, ⊤, false, [], IsTrue, Result, Ok, Err}
use Rattle.sr_base.specs.declared.offset.Offset.{Offset}
use Rattle.sr_logfile.specs.Log.{Log}
use Rattle.sr_logfile.specs.declared.fault.RecordFault.{RecordFault}
use Rattle.sr_logfile.specs.declared.fault.RecordFault.TheVariants as records
use Rattle.sr_logform.specs.declared.entry.Entry.{Entry}
use Rattle.sr_site.specs.Causes.{Rose}
use Rattle.sr_site.specs.Seen.{Seen}
use Rattle.sr_site.specs.declared.file.File.{File}
use Rattle.sr_database_files.specs.Damage.{IsMissing, IsDamagedAt}
use Rattle.sr_database.specs.Commits.{HasRoom}
use Rattle.sr_database.specs.Inner.Entries.{IsEnd}
use Rattle.sr_database_files.specs.Inner.Openings.{IsLogFault}
use Rattle.sr_database.specs.Views.{View}
use Rattle.sr_database_files.specs.declared.fault.DatabaseFault.{DatabaseFault}
use Rattle.sr_database_files.specs.declared.fault.DatabaseFault.TheVariants.{Missing, Exists, Damaged, Disk, Full, Long, Memory}
use Rattle.sr_database.specs.Causes.{IsTooLong, IsTooFar}

-- why `open` is refused: but for the disk's refusal no call of the disk failed
abbrev pub OpenCause : Seen → Seen → DatabaseFault → Type 0
OpenCause before now Missing = (IsTrue before.observable → IsMissing before.files) × (now.disk_faults ≡ before.disk_faults)
OpenCause before now Exists = ⊥
OpenCause before now (Damaged file at) = (IsTrue before.observable → IsDamagedAt file at before.files) × (now.disk_faults ≡ before.disk_faults)
OpenCause before now Disk = Rose before.disk_faults now.disk_faults
OpenCause before now (Full end need) = ⊥
OpenCause before now (Long long limit) = ⊥
OpenCause before now Memory = now.disk_faults ≡ before.disk_faults

-- the refusal of the disk, or of memory
abbrev pub IsDiskOrMemory : DatabaseFault → Type 0
IsDiskOrMemory Missing = ⊥
IsDiskOrMemory Exists = ⊥
IsDiskOrMemory (Damaged file at) = ⊥
IsDiskOrMemory Disk = ⊤
IsDiskOrMemory (Full end need) = ⊥
IsDiskOrMemory (Long long limit) = ⊥
IsDiskOrMemory Memory = ⊤

-- all as it was
pub record IsSame (old new : View) (before now : Seen) : Type 0 where
  pub value : new ≡ old
  pub site : now ≡ before

-- the disk refused: the value is not used again, and nothing is pending
pub record IsSpent (new : View) (before now : Seen) : Type 0 where
  pub rose : Rose before.disk_faults now.disk_faults
  pub spent : new.log.usable ≡ false
  pub pending : new.pending ≡ []

-- why an entry gets no record
abbrev pub FramingCause : Log → Entry → DatabaseFault → Type 0
FramingCause log entry Missing = ⊥
FramingCause log entry Exists = ⊥
FramingCause log entry (Damaged file at) = ⊥
FramingCause log entry Disk = ⊥
FramingCause log entry (Full end need) = IsTooFar log entry end need
FramingCause log entry (Long size limit) = IsTooLong entry size limit
FramingCause log entry Memory = ⊤

-- why `commit` is refused: after the disk's refusal the value is not used again, else all is as it was
abbrev pub CommitCause : View → View → Entry → Seen → Seen → DatabaseFault → Type 0
CommitCause old new entry before now Missing = ⊥
CommitCause old new entry before now Exists = ⊥
CommitCause old new entry before now (Damaged file at) = ⊥
CommitCause old new entry before now Disk = IsSpent new before now × HasRoom old.log entry
CommitCause old new entry before now (Full end need) = IsTooFar old.log entry end need × IsSame old new before now
CommitCause old new entry before now (Long size limit) = IsTooLong entry size limit × IsSame old new before now
CommitCause old new entry before now Memory = IsSame old new before now

-- a commit has begun: it stands, or the disk refused
abbrev pub IsBegun : Result Offset DatabaseFault → Type 0
IsBegun (Ok offset) = ⊤
IsBegun (Err Missing) = ⊥
IsBegun (Err Exists) = ⊥
IsBegun (Err (Damaged file at)) = ⊥
IsBegun (Err Disk) = ⊤
IsBegun (Err (Full end need)) = ⊥
IsBegun (Err (Long size limit)) = ⊥
IsBegun (Err Memory) = ⊥

-- why the entry behind an offset is not read: damage only where the disk does not tell what it holds, or this is no entry's end; but for the
-- disk's refusal no call of the disk failed
abbrev pub EntryCause : View → Offset → Seen → Seen → DatabaseFault → Type 0
EntryCause view after before now Missing = ⊥
EntryCause view after before now Exists = ⊥
EntryCause view after before now (Damaged file at) = (IsTrue before.observable → ¬ (IsEnd view after before)) × (now.disk_faults ≡ before.disk_faults)
EntryCause view after before now Disk = Rose before.disk_faults now.disk_faults
EntryCause view after before now (Full end need) = ⊥
EntryCause view after before now (Long long limit) = ⊥
EntryCause view after before now Memory = now.disk_faults ≡ before.disk_faults

-- the fault of a database where a record is not read
abbrev pub IsRecordFault : File → RecordFault → DatabaseFault → Type 0
IsRecordFault file records.Memory answer = answer ≡ Memory
IsRecordFault file (records.Log fault) answer = IsLogFault file fault answer
