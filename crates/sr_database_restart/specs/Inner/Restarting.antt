-- A restart: a database's files are written anew in the generation that is not in force, and then the root names that one.
-- Here is what no contract of the program says by itself.
use Rattle.std.specs.Prelude.{◌≡◌, ◌≤◌, ◌<◌, ◌⊎◌, ℕ, List, IsTrue}
use Rattle.sr_database_meaning.specs.Generations.{Generation, snapshot_of, log_of, named, other_of}
use Rattle.sr_database_restart.specs.declared.fault.RestartFault.{RestartFault}
use Rattle.sr_database_restart.specs.declared.fault.RestartFault.TheVariants.{Disk, Memory, Long, Damaged}
use Rattle.sr_site.specs.Causes.{Rose}
use Rattle.sr_site.specs.Files.{Files, bytes_of, with_bytes, IsTorn}
use Rattle.sr_site.specs.Images.{IsImage, IsSettled, RestsThroughout}
use Rattle.sr_site.specs.Seen.{Seen}
use Rattle.sr_site.specs.declared.file.File.{File}
use Rattle.sr_site.specs.declared.file.File.TheVariants.{Root}
use Rattle.sr_snapshot.specs.Parts.{longest}

-- ---- what a crash may leave on the way

-- files have the root of others, and their snapshot and log of this generation
pub record AgreesOn (generation : Generation) (old image : Files) : Type 0 where
  pub root : image.root ≡ old.root
  pub snapshot : bytes_of image (snapshot_of generation) ≡ bytes_of old (snapshot_of generation)
  pub log : bytes_of image (log_of generation) ≡ bytes_of old (log_of generation)

-- while the other generation is written: the root and the files of the generation in force are as a crash might have left them before
pub record KeepsInForce (generation : Generation) (before : Seen) (image : Files) : Type 0 where
  pub old : Files
  pub stood : IsImage before old
  pub agrees : AgreesOn generation old image

-- a snapshot and a log of these bytes
pub record HasParts (generation : Generation) (snapshot log : List ℕ) (image : Files) : Type 0 where
  pub snapshot_is : bytes_of image (snapshot_of generation) ≡ snapshot
  pub log_is : bytes_of image (log_of generation) ≡ log

-- while the root is written both generations are whole: the files of the one in force are as a crash might have left them before, the other has these bytes, and of
-- the root no more than the first byte may differ from what a crash might have left before
pub record HasBoth (generation : Generation) (snapshot log : List ℕ) (before : Seen) (image : Files) : Type 0 where
  pub old : Files
  pub stood : IsImage before old
  pub parts : HasParts generation (bytes_of old (snapshot_of generation)) (bytes_of old (log_of generation)) image
  pub new : HasParts (other_of generation) snapshot log image
  pub rooted : Files
  pub stood_too : IsImage before rooted
  pub root : IsTorn 0 1 rooted.root image.root

-- the other generation was written, and then the root: before the moment between, nothing in force changes; from it on both generations are whole
pub record WentOver (generation : Generation) (snapshot log : List ℕ) (before now : Seen) : Type 0 where
  pub middle : Seen
  pub first : middle.first ≡ before.first
  pub writing : RestsThroughout (KeepsInForce generation before) before middle
  pub naming : RestsThroughout (HasBoth generation snapshot log before) middle now

-- so it went, or it did not come to the root
abbrev pub WentOn : Generation → List ℕ → List ℕ → Seen → Seen → Type 0
WentOn generation snapshot log before now = RestsThroughout (KeepsInForce generation before) before now ⊎ WentOver generation snapshot log before now

-- ---- what it comes to

-- the root has these bytes, and so have a generation's snapshot and log
pub record IsWhole (generation : Generation) (root snapshot log : List ℕ) (image : Files) : Type 0 where
  pub root_is : image.root ≡ root
  pub parts : HasParts generation snapshot log image

-- files whose other generation has these bytes, and whose root names it
abbrev pub renamed : Generation → List ℕ → List ℕ → Files → Files
renamed generation snapshot log files = with_bytes (with_bytes (with_bytes files (snapshot_of generation) snapshot) (log_of generation) log) Root (named generation files.root)

-- the generation that was not in force has these bytes and is in force, whatever a crash leaves; it went over to it as it should
pub record IsRestarted (generation : Generation) (snapshot log : List ℕ) (before now : Seen) : Type 0 where
  pub files : now.files ≡ renamed (other_of generation) snapshot log before.files
  pub settled : IsSettled (IsWhole (other_of generation) (named (other_of generation) before.files.root) snapshot log) now
  pub went : WentOver generation snapshot log before now

-- why a restart gave nothing, of a state whose snapshot has so many bytes: where it is too long no device was called, and the log is damaged only where the site
-- tells nothing
abbrev pub RestartCause : ℕ → File → Seen → Seen → RestartFault → Type 0
RestartCause size log before now Disk = (size ≤ longest) × Rose before.disk_faults now.disk_faults
RestartCause size log before now Memory = (now.disk_faults ≡ before.disk_faults) × (longest < size → now ≡ before)
RestartCause size log before now (Long found limit) = (found ≡ size) × (limit ≡ longest) × (longest < size) × (now ≡ before)
RestartCause size log before now (Damaged file at) = (file ≡ log) × (IsTrue before.observable → ⊥) × (size ≤ longest) × (now.disk_faults ≡ before.disk_faults)
