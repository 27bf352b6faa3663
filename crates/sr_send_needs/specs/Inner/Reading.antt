-- Why a log is not read on.
use Rattle.std.specs.Prelude.{◌≡◌, ⊤, IsTrue}
use Rattle.sr_database.specs.Databases.{HasDatabase}
use Rattle.sr_database.specs.Views.{View}
use Rattle.sr_database_files.specs.declared.fault.DatabaseFault.{DatabaseFault}
use Rattle.sr_database_files.specs.declared.fault.DatabaseFault.TheVariants as store
use Rattle.sr_send_needs.specs.declared.fault.NeedFault.{NeedFault}
use Rattle.sr_send_needs.specs.declared.fault.NeedFault.TheVariants.{Disk, Damaged, Memory}
use Rattle.sr_site.specs.Causes.{Rose}
use Rattle.sr_site.specs.Seen.{Seen}

-- why a search is not ended: but for the disk's refusal no call of the disk failed, and a record reads as damaged only where the disk does not tell what it
-- holds, or no history leads to the value
abbrev pub SearchCause : View → Seen → Seen → DatabaseFault → Type 0
SearchCause db before now store.Missing = ⊥
SearchCause db before now store.Exists = ⊥
SearchCause db before now (store.Damaged file at) = (IsTrue before.observable → ¬ (HasDatabase db before)) × (now.disk_faults ≡ before.disk_faults)
SearchCause db before now store.Disk = Rose before.disk_faults now.disk_faults
SearchCause db before now (store.Full end need) = ⊥
SearchCause db before now (store.Long size limit) = ⊥
SearchCause db before now store.Memory = now.disk_faults ≡ before.disk_faults

-- the same of the fault that is told
abbrev pub NeedCause : View → Seen → Seen → NeedFault → Type 0
NeedCause db before now Disk = Rose before.disk_faults now.disk_faults
NeedCause db before now (Damaged file at) = (IsTrue before.observable → ¬ (HasDatabase db before)) × (now.disk_faults ≡ before.disk_faults)
NeedCause db before now Memory = now.disk_faults ≡ before.disk_faults

-- the refusals of a read
abbrev pub IsReadRefusal : DatabaseFault → Type 0
IsReadRefusal store.Missing = ⊥
IsReadRefusal store.Exists = ⊥
IsReadRefusal (store.Damaged file at) = ⊤
IsReadRefusal store.Disk = ⊤
IsReadRefusal (store.Full end need) = ⊥
IsReadRefusal (store.Long size limit) = ⊥
IsReadRefusal store.Memory = ⊤

-- a fault as it is told
abbrev pub IsToldAs : DatabaseFault → NeedFault → Type 0
IsToldAs store.Missing told = ⊥
IsToldAs store.Exists told = ⊥
IsToldAs (store.Damaged file at) told = told ≡ Damaged file at
IsToldAs store.Disk told = told ≡ Disk
IsToldAs (store.Full end need) told = ⊥
IsToldAs (store.Long size limit) told = ⊥
IsToldAs store.Memory told = told ≡ Memory
