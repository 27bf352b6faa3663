-- Bytes that are put behind those of a file, of which the last ones wait to be written.
use Rattle.std.specs.Prelude.{◌≡◌, ◌≤◌, ◌<◌, ⊤, ℕ, List, [], ◌∷◌, ◌++◌, length, IsTrue}
use Rattle.sr_site.specs.Causes.{DiskStays, Rose}
use Rattle.sr_site.specs.Files.{bytes_of, with_bytes, OthersStay}
use Rattle.sr_site.specs.Happenings.{Happening, attached, wrote, cut_to, synced, listed, fetched, sent, removed, handed_over}
use Rattle.sr_site.specs.Images.{IsSettled}
use Rattle.sr_site.specs.Seen.{Seen}
use Rattle.sr_site.specs.declared.file.File.{File}
use Rattle.sr_snapshot.specs.Parts.{longest}
use Rattle.sr_snapshot.specs.declared.fault.SnapFault.{SnapFault}
use Rattle.sr_snapshot.specs.declared.fault.SnapFault.TheVariants.{Disk, Long, Damaged, Memory}

-- a call of the disk on this file
abbrev pub IsOn : File → Happening → Type 0
IsOn file (attached name folder done) = ⊥
IsOn file (wrote f place bytes done after) = f ≡ file
IsOn file (cut_to f to done after) = f ≡ file
IsOn file (synced f done after) = f ≡ file
IsOn file (listed address folder listing) = ⊥
IsOn file (fetched address name limit found) = ⊥
IsOn file (sent address name bytes done) = ⊥
IsOn file (removed address name done) = ⊥
IsOn file (handed_over folders noted) = ⊥

abbrev pub AreOn : File → List Happening → Type 0
AreOn file [] = ⊤
AreOn file (step ∷ more) = IsOn file step × AreOn file more

-- nothing happened but calls of the disk on this file
pub record HappenedOn (file : File) (before now : List Happening) : Type 0 where
  pub more : List Happening
  pub is : now ≡ more ++ before
  pub on : AreOn file more

-- so it is where the site tells; and what every call of the disk leaves
pub record OnlyOn (file : File) (before now : Seen) : Type 0 where
  pub stays : DiskStays before now
  pub on : IsTrue before.observable → HappenedOn file before.happened now.happened

-- a file was written anew: it has these bytes, whatever a crash leaves
pub record IsReplaced (file : File) (bytes : List ℕ) (before now : Seen) : Type 0 where
  pub files : now.files ≡ with_bytes before.files file bytes
  pub settled : IsSettled (λ image. bytes_of image file ≡ bytes) now

-- a piece was put behind the bytes of a file and those that waited, with which others wait now; no other file changed, and no call failed
pub record HasPut (file : File) (piece : List ℕ) (before now : Seen) (waited waiting : List ℕ) (place : ℕ) : Type 0 where
  pub only : OnlyOn file before now
  pub steady : now.disk_faults ≡ before.disk_faults
  pub all : IsTrue before.observable → bytes_of now.files file ++ waiting ≡ (bytes_of before.files file ++ waited) ++ piece
  pub others : IsTrue before.observable → OthersStay file before.files now.files
  pub at : IsTrue before.observable → place ≡ length (bytes_of now.files file)

-- why a piece was not put: at want of memory no call of the disk failed
abbrev pub PutCause : File → Seen → Seen → SnapFault → Type 0
PutCause file before now Disk = OnlyOn file before now × Rose before.disk_faults now.disk_faults
PutCause file before now (Long size limit) = ⊥
PutCause file before now (Damaged at) = ⊥
PutCause file before now Memory = OnlyOn file before now × (now.disk_faults ≡ before.disk_faults)

-- a file without a byte has these bytes now; no other file changed, and no call failed
pub record IsFilled (file : File) (bytes : List ℕ) (before now : Seen) : Type 0 where
  pub only : OnlyOn file before now
  pub steady : now.disk_faults ≡ before.disk_faults
  pub files : IsTrue before.observable → now.files ≡ with_bytes before.files file bytes

-- a file was written anew, and no call failed
pub record IsWritten (file : File) (bytes : List ℕ) (before now : Seen) : Type 0 where
  pub only : OnlyOn file before now
  pub steady : now.disk_faults ≡ before.disk_faults
  pub replaced : IsTrue before.observable → IsReplaced file bytes before now

-- why a snapshot of so many bytes was not written: where it is too long no device was called
abbrev pub WriteCause : ℕ → Seen → Seen → SnapFault → Type 0
WriteCause size before now Disk = (size ≤ longest) × Rose before.disk_faults now.disk_faults
WriteCause size before now (Long found limit) = (found ≡ size) × (limit ≡ longest) × (longest < size) × (now ≡ before)
WriteCause size before now (Damaged at) = ⊥
WriteCause size before now Memory = (now.disk_faults ≡ before.disk_faults) × (longest < size → now ≡ before)
