-- The steps by which a database is opened.
use Rattle.std.specs.Prelude.{◌≡◌, ◌⊎◌, ⊤, ℕ, ◌%◌, ◌==◌, List, [], ◌∷◌, ◌++◌, Some, IsTrue, if◌then◌else◌}
use Rattle.sr_logfile.specs.Damage.{LacksHeader, IsDamaged}
use Rattle.sr_logfile.specs.Records.{Spells}
use Rattle.sr_logfile.specs.declared.fault.LogFault.{LogFault}
use Rattle.sr_logfile.specs.declared.fault.LogFault.TheVariants as logs
use Rattle.sr_site.specs.Causes.{DiskStays, Rose}
use Rattle.sr_site.specs.Files.{Files, bytes_of}
use Rattle.sr_site.specs.Happenings.{Happening, attached, wrote, cut_to, synced, listed, fetched, sent, removed, handed_over}
use Rattle.sr_site.specs.Seen.{Seen}
use Rattle.sr_site.specs.declared.file.File.{File}
use Rattle.sr_snapshot.specs.Beginnings.{Beginning}
use Rattle.sr_snapshot.specs.declared.fault.SnapFault.{SnapFault}
use Rattle.sr_snapshot.specs.declared.fault.SnapFault.TheVariants as snaps
use Rattle.sr_snapshot_read.specs.Damages.{IsDamagedSnapshot as IsDamagedSnapshot}
use Rattle.sr_database_files.specs.Damage.{HasOtherBase, LacksRecordAt, IsDamagedLog}
use Rattle.sr_database_meaning.specs.Generations.{Generation, even, odd, generation_in, snapshot_of, log_of}
use Rattle.sr_database_files.specs.declared.fault.DatabaseFault.{DatabaseFault}
use Rattle.sr_database_files.specs.declared.fault.DatabaseFault.TheVariants.{Missing, Exists, Damaged, Disk, Full, Long, Memory}

-- these are syncs, of files with these bytes
abbrev pub AreSyncs : Files → List Happening → Type 0
AreSyncs files [] = ⊤
AreSyncs files (attached name folder done ∷ more) = ⊥
AreSyncs files (wrote file place bytes done after ∷ more) = ⊥
AreSyncs files (cut_to file to done after ∷ more) = ⊥
AreSyncs files (synced file done after ∷ more) = (after ≡ bytes_of files file) × AreSyncs files more
AreSyncs files (listed address folder listing ∷ more) = ⊥
AreSyncs files (fetched address name limit found ∷ more) = ⊥
AreSyncs files (sent address name bytes done ∷ more) = ⊥
AreSyncs files (removed address name done ∷ more) = ⊥
AreSyncs files (handed_over folders noted ∷ more) = ⊥

-- nothing happened but syncs
pub record OnlySynced (before now : Seen) : Type 0 where
  pub files : now.files ≡ before.files
  pub more : List Happening
  pub is : now.happened ≡ more ++ before.happened
  pub syncs : AreSyncs before.files more

-- nothing happened but syncs, where the site tells; and what every call of the disk leaves
pub record SyncedAlone (before now : Seen) : Type 0 where
  pub stays : DiskStays before now
  pub only : IsTrue before.observable → OnlySynced before now

-- nothing happened at all, where the site tells; and what every call of the disk leaves
pub record ReadAlone (before now : Seen) : Type 0 where
  pub stays : DiskStays before now
  pub files : IsTrue before.observable → now.files ≡ before.files
  pub happened : IsTrue before.observable → now.happened ≡ before.happened

-- bytes that begin with this one
pub record BeginsWithByte (byte : ℕ) (bytes : List ℕ) : Type 0 where
  pub rest : List ℕ
  pub is : bytes ≡ byte ∷ rest

-- the generation that a byte names: each value names one
abbrev pub named_by : ℕ → Generation
named_by byte = if (byte % 2) == 0 then even else odd

-- the files in force: the snapshot and the log of a generation, the one that the root names
pub record AreInForce (snapshot log : File) (seen : Seen) : Type 0 where
  pub generation : Generation
  pub snapshot_is : snapshot ≡ snapshot_of generation
  pub log_is : log ≡ log_of generation
  pub named : IsTrue seen.observable → generation_in seen.files.root ≡ Some generation

-- why the root is refused: where it has no byte, no call of the disk failed
abbrev pub RootCause : Seen → Seen → DatabaseFault → Type 0
RootCause before now Missing = (IsTrue before.observable → before.files.root ≡ []) × (now.disk_faults ≡ before.disk_faults)
RootCause before now Exists = ⊥
RootCause before now (Damaged file at) = ⊥
RootCause before now Disk = Rose before.disk_faults now.disk_faults
RootCause before now (Full end need) = ⊥
RootCause before now (Long size limit) = ⊥
RootCause before now Memory = ⊥

-- the fault of a database whose snapshot is not read
abbrev pub IsSnapFault : File → SnapFault → DatabaseFault → Type 0
IsSnapFault snapshot snaps.Disk answer = answer ≡ Disk
IsSnapFault snapshot (snaps.Long size limit) answer = answer ≡ Long size limit
IsSnapFault snapshot (snaps.Damaged at) answer = answer ≡ Damaged snapshot at
IsSnapFault snapshot snaps.Memory answer = answer ≡ Memory

-- why the snapshot is refused: at damage and for want of memory no call of the disk failed
abbrev pub SnapshotCause : File → Seen → Seen → DatabaseFault → Type 0
SnapshotCause snapshot before now Missing = ⊥
SnapshotCause snapshot before now Exists = ⊥
SnapshotCause snapshot before now (Damaged file at) = (file ≡ snapshot) × (IsTrue before.observable → IsDamagedSnapshot (bytes_of before.files snapshot) at) × (now.disk_faults ≡ before.disk_faults)
SnapshotCause snapshot before now Disk = Rose before.disk_faults now.disk_faults
SnapshotCause snapshot before now (Full end need) = ⊥
SnapshotCause snapshot before now (Long size limit) = ⊥
SnapshotCause snapshot before now Memory = now.disk_faults ≡ before.disk_faults

-- why the log is refused, behind the beginning that its snapshot tells: at damage and for want of memory no call of the disk failed
abbrev pub LogCause : File → Beginning → Seen → Seen → DatabaseFault → Type 0
LogCause log b before now Missing = ⊥
LogCause log b before now Exists = ⊥
LogCause log b before now (Damaged file at) = (file ≡ log) × (IsTrue before.observable → IsDamagedLog b (bytes_of before.files log) at) × (now.disk_faults ≡ before.disk_faults)
LogCause log b before now Disk = Rose before.disk_faults now.disk_faults
LogCause log b before now (Full end need) = ⊥
LogCause log b before now (Long size limit) = ⊥
LogCause log b before now Memory = now.disk_faults ≡ before.disk_faults

-- the log's header is not whole, or has another base
abbrev pub IsDamagedHeader : ℕ → List ℕ → ℕ → Type 0
IsDamagedHeader base bytes place = (LacksHeader bytes × (place ≡ 0)) ⊎ (HasOtherBase base bytes × (place ≡ 8))

-- why the log's header is refused: at damage no call of the disk failed
abbrev pub BaseCause : ℕ → File → Seen → Seen → DatabaseFault → Type 0
BaseCause base log before now Missing = ⊥
BaseCause base log before now Exists = ⊥
BaseCause base log before now (Damaged file at) = (file ≡ log) × (IsTrue before.observable → IsDamagedHeader base (bytes_of before.files log) at) × (now.disk_faults ≡ before.disk_faults)
BaseCause base log before now Disk = Rose before.disk_faults now.disk_faults
BaseCause base log before now (Full end need) = ⊥
BaseCause base log before now (Long size limit) = ⊥
BaseCause base log before now Memory = ⊥

-- the log's records are whole behind a header of this base
pub record IsWholeLog (base : ℕ) (bytes : List ℕ) : Type 0 where
  pub all : List (List ℕ)
  pub spells : Spells base all bytes

-- the log's header is not whole, or has another base, or a record is not as written
abbrev pub IsDamagedShape : ℕ → List ℕ → ℕ → Type 0
IsDamagedShape base bytes place = (LacksHeader bytes × (place ≡ 0)) ⊎ ((HasOtherBase base bytes × (place ≡ 8)) ⊎ LacksRecordAt base bytes place)

-- why the log's header and records are refused: at damage no call of the disk failed
abbrev pub ShapeCause : ℕ → File → Seen → Seen → DatabaseFault → Type 0
ShapeCause base log before now Missing = ⊥
ShapeCause base log before now Exists = ⊥
ShapeCause base log before now (Damaged file at) = (file ≡ log) × (IsTrue before.observable → IsDamagedShape base (bytes_of before.files log) at) × (now.disk_faults ≡ before.disk_faults)
ShapeCause base log before now Disk = Rose before.disk_faults now.disk_faults
ShapeCause base log before now (Full end need) = ⊥
ShapeCause base log before now (Long size limit) = ⊥
ShapeCause base log before now Memory = ⊥

-- the fault of a database whose log refuses
abbrev pub IsLogFault : File → LogFault → DatabaseFault → Type 0
IsLogFault log logs.Disk answer = answer ≡ Disk
IsLogFault log (logs.Full end need) answer = answer ≡ Full end need
IsLogFault log (logs.Damaged at) answer = answer ≡ Damaged log at

-- the log's own opening refused: where it found damage, this is there
abbrev pub HasRefused : LogFault → File → Seen → Type 0
HasRefused logs.Disk log seen = ⊤
HasRefused (logs.Full end need) log seen = ⊥
HasRefused (logs.Damaged at) log seen = IsTrue seen.observable → IsDamaged (bytes_of seen.files log) at

-- the log's own opening found damage
abbrev pub HasFoundDamage : LogFault → Type 0
HasFoundDamage logs.Disk = ⊥
HasFoundDamage (logs.Full end need) = ⊥
HasFoundDamage (logs.Damaged at) = ⊤

-- why the shape of a log is refused after its own opening was: with the disk's refusal then or now, else at damage that was found both times
abbrev pub ShapeRefusal : ℕ → File → LogFault → Seen → Seen → DatabaseFault → Type 0
ShapeRefusal base log fault before now Missing = ⊥
ShapeRefusal base log fault before now Exists = ⊥
ShapeRefusal base log fault before now (Damaged file at) = (file ≡ log) × (IsTrue before.observable → IsDamagedShape base (bytes_of before.files log) at) × (now.disk_faults ≡ before.disk_faults) × HasFoundDamage fault
ShapeRefusal base log fault before now Disk = (fault ≡ logs.Disk) ⊎ Rose before.disk_faults now.disk_faults
ShapeRefusal base log fault before now (Full end need) = ⊥
ShapeRefusal base log fault before now (Long size limit) = ⊥
ShapeRefusal base log fault before now Memory = ⊥
