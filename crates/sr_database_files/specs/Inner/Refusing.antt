-- Why no database is made.
use Rattle.std.specs.Prelude.{◌≡◌, ◌≢◌, true, [], ◌∷◌, IsTrue}
use Rattle.sr_site.specs.Causes.{Rose}
use Rattle.sr_site.specs.Happenings.{synced}
use Rattle.sr_site.specs.Seen.{Seen}
use Rattle.sr_site.specs.declared.file.File.TheVariants.{Root}
use Rattle.sr_database_files.specs.declared.fault.DatabaseFault.{DatabaseFault}
use Rattle.sr_database_files.specs.declared.fault.DatabaseFault.TheVariants.{Missing, Exists, Damaged, Disk, Full, Long, Memory}

-- the root has a byte, and nothing happened but that it was synced
pub record IsLeft (before now : Seen) : Type 0 where
  pub there : before.files.root ≢ []
  pub files : now.files ≡ before.files
  pub happened : now.happened ≡ synced Root true before.files.root ∷ before.happened

-- why `create` is refused: where there is a database no call of the disk failed; for want of memory it is before any device is called
abbrev pub CreateCause : Seen → Seen → DatabaseFault → Type 0
CreateCause before now Missing = ⊥
CreateCause before now Exists = (IsTrue before.observable → IsLeft before now) × (now.disk_faults ≡ before.disk_faults)
CreateCause before now (Damaged file at) = ⊥
CreateCause before now Disk = Rose before.disk_faults now.disk_faults
CreateCause before now (Full end need) = ⊥
CreateCause before now (Long long limit) = ⊥
CreateCause before now Memory = now ≡ before
