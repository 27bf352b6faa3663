-- A file that is read from its front to its end through a window.
use Rattle.std.specs.Prelude.{◌≡◌, ◌≤◌, ◌⊎◌, ℕ, ◌+◌, List, [], ◌++◌, length, drop, IsTrue, Err}
use Rattle.sr_base.specs.Reading.{Read}
use Rattle.sr_site.specs.Causes.{DiskStays, Rose}
use Rattle.sr_site.specs.Files.{bytes_of}
use Rattle.sr_site.specs.Seen.{Seen}
use Rattle.sr_site.specs.declared.file.File.{File}
use Rattle.sr_snapshot.specs.declared.fault.SnapFault.{SnapFault}
use Rattle.sr_snapshot.specs.declared.fault.SnapFault.TheVariants.{Disk, Long, Damaged, Memory}
use Rattle.sr_snapshot_read.specs.Inner.Views.{View}

-- it holds the bytes of this file from its place on, or the first of them
pub record IsOver (view : View) (bytes : List ℕ) : Type 0 where
  pub size_is : view.size ≡ length bytes
  pub behind : List ℕ
  pub parts : drop view.place bytes ≡ view.held ++ behind

-- it holds so many bytes, or all that are left
abbrev pub HasEnough : View → ℕ → Type 0
HasEnough view need = (need ≤ length view.held) ⊎ (view.place + length view.held ≡ view.size)

-- nothing happened at all, where the site tells; and what every call of the disk leaves
pub record ReadAlone (before now : Seen) : Type 0 where
  pub stays : DiskStays before now
  pub files : IsTrue before.observable → now.files ≡ before.files
  pub happened : IsTrue before.observable → now.happened ≡ before.happened

-- what is spelled so was taken from the front of the bytes that were left, and no call failed
pub record HasTaken (file : File) (spelling : List ℕ) (before now : Seen) (old new : View) : Type 0 where
  pub read : ReadAlone before now
  pub steady : now.disk_faults ≡ before.disk_faults
  pub over : IsTrue before.observable → IsOver new (bytes_of before.files file)
  pub parts : IsTrue before.observable → drop old.place (bytes_of before.files file) ≡ spelling ++ drop new.place (bytes_of before.files file)

-- of the bytes that are left some break, from the place on behind which so many are left
pub record BreaksAt (breaks : List ℕ → ℕ → Type 0) (bytes : List ℕ) (place at : ℕ) : Type 0 where
  pub left : ℕ
  pub broken : breaks (drop place bytes) left
  pub at_is : at + left ≡ length bytes

-- why nothing was taken: at damage and for want of memory no call of the disk failed
abbrev pub TakeCause : File → (List ℕ → ℕ → Type 0) → Seen → Seen → View → SnapFault → Type 0
TakeCause file breaks before now view Disk = ReadAlone before now × Rose before.disk_faults now.disk_faults
TakeCause file breaks before now view (Long size limit) = ⊥
TakeCause file breaks before now view (Damaged at) = ReadAlone before now × (now.disk_faults ≡ before.disk_faults) × (IsTrue before.observable → BreaksAt breaks (bytes_of before.files file) view.place at)
TakeCause file breaks before now view Memory = ReadAlone before now × (now.disk_faults ≡ before.disk_faults)

-- why no more was read
abbrev pub ReadyCause : Seen → Seen → SnapFault → Type 0
ReadyCause before now Disk = Rose before.disk_faults now.disk_faults
ReadyCause before now (Long size limit) = ⊥
ReadyCause before now (Damaged at) = ⊥
ReadyCause before now Memory = now.disk_faults ≡ before.disk_faults

-- a field breaks: in the bytes that stand in a window which holds enough of them, or all
pub record BreaksWithin {A : Type 0} (reading : List ℕ → Read A) (need : ℕ) (bytes : List ℕ) (left : ℕ) : Type 0 where
  pub held : List ℕ
  pub behind : List ℕ
  pub parts : bytes ≡ held ++ behind
  pub enough : (need ≤ length held) ⊎ (behind ≡ [])
  pub within : ℕ
  pub broken : reading held ≡ Err within
  pub left_is : left ≡ within + length behind
