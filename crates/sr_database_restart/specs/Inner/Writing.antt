-- The steps of a restart.
-- Here is what no contract of the program says by itself.
use Rattle.std.specs.Prelude.{◌≡◌, ◌⊎◌, ℕ, List, ◌∷◌, drop, IsTrue}
use Rattle.sr_database_meaning.specs.Generations.{Generation, snapshot_of, log_of, other_of}
use Rattle.sr_database_meaning.specs.Restarts.{IsQuiet}
use Rattle.sr_database_restart.specs.Inner.Restarting.{HasParts, KeepsInForce}
use Rattle.sr_logfile_carry.specs.Inner.Touching.{HappenedOn}
use Rattle.sr_site.specs.Causes.{DiskStays}
use Rattle.sr_site.specs.Files.{Files, with_bytes, IsTorn, OthersStay}
use Rattle.sr_site.specs.Images.{IsImage, IsSettled, RestsThroughout}
use Rattle.sr_site.specs.Seen.{Seen}
use Rattle.sr_site.specs.declared.file.File.{File}
use Rattle.sr_site.specs.declared.file.File.TheVariants.{Root}

-- nothing happened but calls of the disk on this file, where the site tells; and what every call of the disk leaves
pub record Touches (file : File) (before now : Seen) : Type 0 where
  pub stays : DiskStays before now
  pub on : IsTrue before.observable → HappenedOn file before.happened now.happened

-- the other generation was written, whole or in part: at each moment nothing in force changes
pub record TouchesOther (generation : Generation) (before now : Seen) : Type 0 where
  pub stays : DiskStays before now
  pub keeps : IsTrue before.observable → RestsThroughout (KeepsInForce generation before) before now
  pub quiet : IsTrue before.observable → IsQuiet before.happened now.happened

-- the other generation has these bytes, whatever a crash leaves, and no other file changed
pub record HasWritten (generation : Generation) (snapshot log : List ℕ) (before now : Seen) : Type 0 where
  pub files : now.files ≡ with_bytes (with_bytes before.files (snapshot_of (other_of generation)) snapshot) (log_of (other_of generation)) log
  pub settled : IsSettled (HasParts (other_of generation) snapshot log) now

-- the root with a byte in its first place
abbrev pub named_by : ℕ → Files → List ℕ
named_by byte files = byte ∷ drop 1 files.root

-- while a byte is put into the root's first place, that place may have any; the rest of the root and the other files are as a crash might have left them before. Once
-- the root is synced it is as it was read, with that byte
pub record IsNamedInPart (byte : ℕ) (before : Seen) (image : Files) : Type 0 where
  pub old : Files
  pub stood : IsImage before old
  pub others : OthersStay Root old image
  pub root : IsTorn 0 1 old.root image.root ⊎ (image.root ≡ named_by byte before.files)
