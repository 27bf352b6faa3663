-- Why a state was not read from a file.
use Rattle.std.specs.Prelude.{◌≡◌, ℕ, List, IsTrue}
use Rattle.sr_site.specs.Causes.{Rose}
use Rattle.sr_site.specs.Files.{bytes_of}
use Rattle.sr_site.specs.Seen.{Seen}
use Rattle.sr_site.specs.declared.file.File.{File}
use Rattle.sr_snapshot.specs.Beginnings.{Beginning}
use Rattle.sr_snapshot.specs.Snapshots.{IsSnapshot}
use Rattle.sr_snapshot.specs.declared.fault.SnapFault.{SnapFault}
use Rattle.sr_snapshot.specs.declared.fault.SnapFault.TheVariants.{Disk, Long, Damaged, Memory}
use Rattle.sr_snapshot_read.specs.Damages.{IsDamagedSnapshot}

-- the bytes break at this place, and are the snapshot of no beginning
pub record IsNoSnapshot (bytes : List ℕ) (at : ℕ) : Type 0 where
  pub damaged : IsDamagedSnapshot bytes at
  pub none : (b : Beginning) → ¬ (IsSnapshot b bytes)

-- why a state was not read: only at a refusal of the disk a call of it failed
abbrev pub ReadCause : File → Seen → Seen → SnapFault → Type 0
ReadCause file before now Disk = Rose before.disk_faults now.disk_faults
ReadCause file before now (Long size limit) = ⊥
ReadCause file before now (Damaged at) = (now.disk_faults ≡ before.disk_faults) × (IsTrue before.observable → IsNoSnapshot (bytes_of before.files file) at)
ReadCause file before now Memory = now.disk_faults ≡ before.disk_faults
