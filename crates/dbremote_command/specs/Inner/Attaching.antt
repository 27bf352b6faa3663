-- How a database is attached, and why it is not.
use Rattle.std.specs.Prelude.{◌≡◌, ℕ, Bool, List, ◌∷◌, IsTrue}
use Rattle.sr_database_files.specs.declared.fault.DatabaseFault.{DatabaseFault}
use Rattle.sr_database_files.specs.declared.fault.DatabaseFault.TheVariants as store
use Rattle.sr_site.specs.Causes.{DiskStays, Rose}
use Rattle.sr_site.specs.Happenings.{attached}
use Rattle.sr_site.specs.Seen.{Seen}

-- from one moment to the next a site was attached, or this was refused, and nothing else happened
pub record Attaches (name mail : List ℕ) (done : Bool) (before now : Seen) : Type 0 where
  pub happened : IsTrue before.observable → now.happened ≡ attached name mail done ∷ before.happened
  pub files : IsTrue before.observable → now.files ≡ before.files
  pub stays : DiskStays before now

-- why it was refused: but for the disk's refusal no call of the disk failed
abbrev pub AttachCause : Seen → Seen → DatabaseFault → Type 0
AttachCause before now store.Missing = ⊥
AttachCause before now store.Exists = ⊥
AttachCause before now (store.Damaged file at) = ⊥
AttachCause before now store.Disk = Rose before.disk_faults now.disk_faults
AttachCause before now (store.Full end need) = ⊥
AttachCause before now (store.Long size limit) = ⊥
AttachCause before now store.Memory = now.disk_faults ≡ before.disk_faults
