-- Why a call on a log fails.
use Rattle.std.specs.Prelude.{◌≡◌, ℕ, ◌+◌, List, IsTrue}
use Rattle.sr_site.specs.declared.file.File.{File}
use Rattle.sr_site.specs.Causes.{Rose}
use Rattle.sr_site.specs.Files.{bytes_of}
use Rattle.sr_site.specs.Seen.{Seen}
use Rattle.sr_logfile.specs.declared.fault.LogFault.{LogFault}
use Rattle.sr_logfile.specs.declared.fault.LogFault.TheVariants.{Disk, Full, Damaged}
use Rattle.sr_logfile.specs.declared.fault.RecordFault.{RecordFault}
use Rattle.sr_logfile.specs.declared.fault.RecordFault.TheVariants.{Log as FromLog, Memory}
use Rattle.sr_logfile.specs.Damage.{IsDamaged, LacksHeader}
use Rattle.sr_logfile.specs.Log.{Log}
use Rattle.sr_logfile.specs.Logs.{IsFull, gate_of}
use Rattle.sr_logfile.specs.Inner.Logs.{IsAt, spent}

-- the refusal of the disk
abbrev pub IsDisk : LogFault → Type 0
IsDisk Disk = Unit {0}
IsDisk (Full end need) = ⊥
IsDisk (Damaged at) = ⊥

-- the refusal of the disk, or of damage at this place
abbrev pub IsDiskOrDamaged : ℕ → LogFault → Type 0
IsDiskOrDamaged place Disk = Unit {0}
IsDiskOrDamaged place (Full end need) = ⊥
IsDiskOrDamaged place (Damaged at) = at ≡ place

-- why `fresh` is refused
abbrev pub FreshCause : Seen → Seen → LogFault → Type 0
FreshCause before now Disk = Rose before.disk_faults now.disk_faults
FreshCause before now (Full end need) = ⊥
FreshCause before now (Damaged at) = ⊥

-- why a header is refused: there is none, and no call of the disk failed
abbrev pub HeaderCause : File → Seen → Seen → LogFault → Type 0
HeaderCause file before now Disk = Rose before.disk_faults now.disk_faults
HeaderCause file before now (Full end need) = ⊥
HeaderCause file before now (Damaged at) = (at ≡ 0) × (IsTrue before.observable → LacksHeader (bytes_of before.files file)) × (now.disk_faults ≡ before.disk_faults)

-- why `open` is refused: at damage no call of the disk failed
abbrev pub OpenCause : File → Seen → Seen → LogFault → Type 0
OpenCause file before now Disk = Rose before.disk_faults now.disk_faults
OpenCause file before now (Full end need) = ⊥
OpenCause file before now (Damaged at) = (IsTrue before.observable → IsDamaged (bytes_of before.files file) at) × (now.disk_faults ≡ before.disk_faults)

-- why `next` is refused: damage only where the file is not as the log's calls left it, and no call of the disk failed
abbrev pub NextCause : Log → ℕ → Seen → Seen → LogFault → Type 0
NextCause log after before now Disk = Rose before.disk_faults now.disk_faults
NextCause log after before now (Full end need) = ⊥
NextCause log after before now (Damaged at) = (IsTrue before.observable → (done left : List (List ℕ)) → IsAt log after done left before.files → ⊥) × (now.disk_faults ≡ before.disk_faults)

-- why the record behind a position is not read: where memory was wanting no call of the disk failed
abbrev pub RecordAfterCause : Log → ℕ → Seen → Seen → RecordFault → Type 0
RecordAfterCause log after before now (FromLog fault) = NextCause log after before now fault
RecordAfterCause log after before now Memory = now.disk_faults ≡ before.disk_faults

-- why `commit` of so many framed bytes is refused, and what it leaves then: after the disk's refusal a log that is not used again, after Full
-- all as it was
abbrev pub CommitCause : Log → Log → ℕ → ℕ → Seen → Seen → LogFault → Type 0
CommitCause old new count bound before now Disk = Rose before.disk_faults now.disk_faults × (new ≡ spent old)
CommitCause old new count bound before now (Full end need) = IsFull old count bound × (end ≡ gate_of old + 1) × (need ≡ count) × (new ≡ old) × (now ≡ before)
CommitCause old new count bound before now (Damaged at) = ⊥
