-- The steps by which a database is made.
use Rattle.std.specs.Prelude.{◌≡◌, ℕ, Bool, true, List, [], ◌∷◌}
use Rattle.sr_site.specs.Files.{Files, bytes_of, with_bytes}
use Rattle.sr_site.specs.Happenings.{synced}
use Rattle.sr_site.specs.Images.{IsSettled}
use Rattle.sr_site.specs.Seen.{Seen}
use Rattle.sr_site.specs.declared.file.File.{File}
use Rattle.sr_site.specs.declared.file.File.TheVariants.{Root}
use Rattle.sr_database_files.specs.Inner.Fresh.{AreNewOf}

-- one sync of the root happened, and it succeeded where its length was read
pub record HasSyncedRoot (read : Bool) (before now : Seen) : Type 0 where
  pub done : Bool
  pub is : now.happened ≡ synced Root done before.files.root ∷ before.happened
  pub did : read ≡ true → done ≡ true

abbrev pub HasNoRoot : Files → Type 0
HasNoRoot files = files.root ≡ []

-- both generations are new, and the root has these bytes
pub record HasNew (snapshot root : List ℕ) (files : Files) : Type 0 where
  pub new : AreNewOf snapshot files
  pub root_is : files.root ≡ root

-- a file was written anew: it has these bytes, whatever a crash leaves
pub record IsReplaced (file : File) (bytes : List ℕ) (before now : Seen) : Type 0 where
  pub files : now.files ≡ with_bytes before.files file bytes
  pub settled : IsSettled (λ image. bytes_of image file ≡ bytes) now
