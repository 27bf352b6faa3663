-- What is read of a log's header and of a record's first bytes.
use Rattle.std.specs.Prelude.{◌≡◌, ◌≢◌, ℕ, ◌+◌, ◌^◌, ◌<◌, ◌≤◌, List, ◌∷◌, ◌++◌, length, drop, Option, Some, None, IsTrue}
use Rattle.std.specs.Int.{w32, to_be_bytes}
use Rattle.std.specs.List.{AllByRecursion}
use Rattle.sr_base.specs.Values.{farthest_offset}
use Rattle.sr_site.specs.declared.file.File.{File}
use Rattle.sr_site.specs.Causes.{Rose}
use Rattle.sr_site.specs.Files.{bytes_of}
use Rattle.sr_site.specs.Seen.{Seen}
use Rattle.sr_logfile.specs.declared.fault.LogFault.{LogFault}
use Rattle.sr_logfile.specs.declared.fault.LogFault.TheVariants.{Disk, Full, Damaged}
use Rattle.sr_logfile.specs.declared.head.Head.{Head}
use Rattle.sr_logfile.specs.declared.head.Head.TheVariants.{Closed, Cut, Open}
use Rattle.sr_logfile.specs.Damage.{BeginsRecord, LacksRecord}
use Rattle.sr_logfile.specs.Records.{header, open_records, IsBody, Spells, place_in}

-- bytes that begin with a gate that is not open
pub record IsClosed (bytes : List ℕ) : Type 0 where
  pub gate : ℕ
  pub rest : List ℕ
  pub bytes_are : bytes ≡ gate ∷ rest
  pub closed : gate ≢ 1

-- bytes that begin with an open gate and a length
pub record HasLength (bytes : List ℕ) (count : ℕ) : Type 0 where
  pub rest : List ℕ
  pub bytes_are : bytes ≡ (1 ∷ to_be_bytes w32 count) ++ rest
  pub fits : count < 2 ^ 32

-- bytes that end at a gate, or within the length behind an open one
pub record IsCut (bytes : List ℕ) : Type 0 where
  pub some : 0 < length bytes → bytes ≡ 1 ∷ drop 1 bytes
  pub short : length bytes < 5

-- the gate at the front of bytes, and the length behind it
abbrev pub IsHead : List ℕ → Head → Type 0
IsHead bytes Closed = IsClosed bytes
IsHead bytes Cut = IsCut bytes
IsHead bytes (Open count) = HasLength bytes count

-- bytes that begin with an open gate and a whole record, which ends at that position
pub record HasWhole (position : ℕ) (bytes : List ℕ) (end : ℕ) : Type 0 where
  pub body : List ℕ
  pub rest : List ℕ
  pub bytes_are : bytes ≡ 1 ∷ rest
  pub begins : BeginsRecord body position rest
  pub end_is : end ≡ position + 5 + length body

-- a body of that length behind the gate at a place is whole: of 1 byte to 64 MiB, with a gate behind it in the file, in front of the last offset
pub record FitsBody (place position count size : ℕ) : Type 0 where
  pub some : 1 ≤ count
  pub most : count ≤ 2 ^ 26
  pub inside : place + 5 + count < size
  pub limit : position + 5 + count ≤ farthest_offset

-- what stands at the front of bytes at a position: a closed gate, or a whole record up to its end
abbrev pub IsRecordEnd : ℕ → List ℕ → Option ℕ → Type 0
IsRecordEnd position bytes None = IsClosed bytes
IsRecordEnd position bytes (Some end) = HasWhole position bytes end

-- bytes, where there are any, that begin with an open gate and no whole record
pub record IsBroken (position : ℕ) (bytes : List ℕ) : Type 0 where
  pub some : 0 < length bytes → bytes ≡ 1 ∷ drop 1 bytes
  pub broken : (body : List ℕ) → BeginsRecord body position (drop 1 bytes) → ⊥

-- why a read of the head is refused
abbrev pub HeadCause : Seen → Seen → LogFault → Type 0
HeadCause before now Disk = Rose before.disk_faults now.disk_faults
HeadCause before now (Full end need) = ⊥
HeadCause before now (Damaged at) = ⊥

-- why a read of a record's end is refused: at damage no call of the disk failed
abbrev pub RecordCause : File → ℕ → ℕ → Seen → Seen → LogFault → Type 0
RecordCause file place position before now Disk = Rose before.disk_faults now.disk_faults
RecordCause file place position before now (Full end need) = ⊥
RecordCause file place position before now (Damaged at) = (at ≡ place) × (IsTrue before.observable → IsBroken position (drop place (bytes_of before.files file))) × (now.disk_faults ≡ before.disk_faults)

-- why a read of the records is refused: at damage no call of the disk failed
abbrev pub RecordsCause : File → Seen → Seen → LogFault → Type 0
RecordsCause file before now Disk = Rose before.disk_faults now.disk_faults
RecordsCause file before now (Full end need) = ⊥
RecordsCause file before now (Damaged at) = (IsTrue before.observable → LacksRecord (bytes_of before.files file) at) × (now.disk_faults ≡ before.disk_faults)

-- the records up to a position are whole, and a gate stands there
pub record Reaches (base position : ℕ) (bytes : List ℕ) : Type 0 where
  pub bodies : List (List ℕ)
  pub bytes_are : bytes ≡ (header base ++ open_records bodies) ++ drop (place_in base position) bytes
  pub some : 0 < length (drop (place_in base position) bytes)
  pub all_bodies : AllByRecursion IsBody bodies
  pub position_is : position ≡ base + length (open_records bodies)

-- the bytes spell records that end at a position
pub record SpellsTo (base end : ℕ) (bytes : List ℕ) : Type 0 where
  pub bodies : List (List ℕ)
  pub spells : Spells base bodies bytes
  pub end_is : end ≡ base + length (open_records bodies)
