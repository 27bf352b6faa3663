-- What a log's file may have at each moment of a commit, and while it is made.
use Rattle.std.specs.Prelude.{◌≡◌, ◌⊎◌, ◌≤◌, ℕ, List, [], ◌∷◌, ◌++◌, length}
use Rattle.sr_site.specs.Files.{Files, bytes_of, OthersStay}
use Rattle.sr_site.specs.Images.{IsImage}
use Rattle.sr_site.specs.Seen.{Seen}
use Rattle.sr_site.specs.declared.file.File.{File}
use Rattle.sr_logfile.specs.Inner.Appends.{LeavesPart}
use Rattle.sr_logfile.specs.Log.{Log}
use Rattle.sr_logfile.specs.Inner.Logs.{IsLog, longer}
use Rattle.sr_logfile.specs.Inner.Records.{empty_log}
use Rattle.sr_logfile.specs.Records.{Spells, body_of}

-- the log's file holds these bodies, or these and the one that is framed
abbrev pub HasOrLacks : Log → List (List ℕ) → List ℕ → Files → Type 0
HasOrLacks log bodies framed image = IsLog log bodies image ⊎ IsLog (longer log (length framed)) (bodies ++ body_of framed ∷ []) image

-- the bytes of the log's file spell these bodies, or these and the one that is framed, whatever stands behind them
abbrev pub SpellsOrLacks : Log → List (List ℕ) → List ℕ → Files → Type 0
SpellsOrLacks log bodies framed files =
    Spells log.base bodies (bytes_of files log.file) ⊎ Spells log.base (bodies ++ body_of framed ∷ []) (bytes_of files log.file)

-- in the file a record has been put behind a gate in part, or whole, over bytes that a crash might have left or that were read before
pub record IsPartPut (gate : ℕ) (framed : List ℕ) (file : File) (before : Seen) (image : Files) : Type 0 where
  pub old : Files
  pub stood : IsImage before old ⊎ (old ≡ before.files)
  pub part : LeavesPart gate framed (bytes_of old file) (bytes_of image file)

-- every crash leaves the file as a read gives it
abbrev pub IsAsRead : File → Seen → Files → Type 0
IsAsRead file seen image = bytes_of image file ≡ bytes_of seen.files file

-- a log without records has been begun in the file: it is no longer than a crash might have left it before, or has no more than the 17 bytes;
-- the other files are as that crash might have left them
pub record IsPartFresh (file : File) (before : Seen) (image : Files) : Type 0 where
  pub old : Files
  pub stood : IsImage before old
  pub others : OthersStay file old image
  pub short : (length (bytes_of image file) ≤ length (bytes_of old file)) ⊎ (length (bytes_of image file) ≤ empty_log)
