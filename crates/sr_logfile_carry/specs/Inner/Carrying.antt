-- The records of a log behind a position, carried over into another file.
-- Here is what no contract of the program says by itself.
use Rattle.std.specs.Prelude.{◌≡◌, ◌-◌, ℕ, List, [], ◌∷◌, ◌++◌, take, drop, IsTrue}
use Rattle.sr_logfile.specs.Inner.Logs.{IsAt}
use Rattle.sr_logfile.specs.Log.{Log}
use Rattle.sr_logfile.specs.Records.{header, open_records, place_in}
use Rattle.sr_logfile_carry.specs.Carried.{carried}
use Rattle.sr_logfile_carry.specs.Inner.Touching.{OnlyOn}
use Rattle.sr_logfile_carry.specs.declared.copying.Part.{Part}
use Rattle.sr_logfile_carry.specs.declared.fault.CarryFault.{CarryFault}
use Rattle.sr_logfile_carry.specs.declared.fault.CarryFault.TheVariants.{Disk, Memory, Damaged}
use Rattle.sr_site.specs.Causes.{Rose}
use Rattle.sr_site.specs.Files.{Files, bytes_of, with_bytes}
use Rattle.sr_site.specs.Images.{IsSettled}
use Rattle.sr_site.specs.Seen.{Seen}
use Rattle.sr_site.specs.declared.file.File.{File}

-- a log file of these records and nothing else: the header, each record behind an open gate, and one closed gate
abbrev pub log_of_records : ℕ → List (List ℕ) → List ℕ
log_of_records base bodies = (header base ++ open_records bodies) ++ 0 ∷ []

-- a position is the base of a log or the offset of one of its records
pub record IsParted (log : Log) (position : ℕ) (files : Files) : Type 0 where
  pub done : List (List ℕ)
  pub left : List (List ℕ)
  pub parts : IsAt log position done left files

-- a file was written anew: it has these bytes, whatever a crash leaves, and no other file changed
pub record IsReplaced (file : File) (bytes : List ℕ) (before now : Seen) : Type 0 where
  pub files : now.files ≡ with_bytes before.files file bytes
  pub settled : IsSettled (λ image. bytes_of image file ≡ bytes) now

-- why a log was not carried over: damage comes only where the site tells nothing, and no call of the disk failed then
abbrev pub CarryCause : Seen → Seen → CarryFault → Type 0
CarryCause before now Disk = Rose before.disk_faults now.disk_faults
CarryCause before now Memory = now ≡ before
CarryCause before now (Damaged at) = (IsTrue before.observable → ⊥) × (now.disk_faults ≡ before.disk_faults)

-- ---- the steps on the way

-- where the records of a log behind a position stand in its file, each with the gate before it
abbrev pub part_of : Log → ℕ → Part
part_of log keep = record { file = log.file; at = place_in log.base keep; end = place_in log.base log.end }

-- the bytes of a file from a place up to another
abbrev pub bytes_in : Files → Part → List ℕ
bytes_in files part = take (part.end - part.at) (drop part.at (bytes_of files part.file))

-- a file has these bytes now; no other file changed, and no call failed
pub record HasNow (file : File) (bytes : List ℕ) (before now : Seen) : Type 0 where
  pub only : OnlyOn file before now
  pub steady : now.disk_faults ≡ before.disk_faults
  pub files : IsTrue before.observable → now.files ≡ with_bytes before.files file bytes

-- so it is, whatever a crash leaves
pub record HasSettled (file : File) (bytes : List ℕ) (before now : Seen) : Type 0 where
  pub has : HasNow file bytes before now
  pub settled : IsTrue before.observable → IsSettled (λ image. bytes_of image file ≡ bytes) now

-- why a step gave nothing
abbrev pub StepCause : File → Seen → Seen → CarryFault → Type 0
StepCause file before now Disk = OnlyOn file before now × Rose before.disk_faults now.disk_faults
StepCause file before now Memory = ⊥
StepCause file before now (Damaged at) = OnlyOn file before now × (IsTrue before.observable → ⊥) × (now.disk_faults ≡ before.disk_faults)
