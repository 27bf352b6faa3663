-- Where the log that is in force begins, and that it goes on to begin there.
use Rattle.std.specs.Prelude.{◌≡◌, ℕ, Some}
use Rattle.sr_logfile.specs.Records.{HasHeader}
use Rattle.sr_site.specs.Files.{Files, bytes_of}
use Rattle.sr_site.specs.Images.{IsSettled, RestsThroughout}
use Rattle.sr_site.specs.Seen.{Seen}
use Rattle.sr_database_meaning.specs.Generations.{Generation, generation_in, log_of}

-- the log of the generation that the root names has the header of this base
pub record HasBase (base : ℕ) (files : Files) : Type 0 where
  pub generation : Generation
  pub root : generation_in files.root ≡ Some generation
  pub header : HasHeader base (bytes_of files (log_of generation))

-- whatever base every crash left the log at one moment, each leaves it up to the other
abbrev pub KeepsBase : Seen → Seen → Type 0
KeepsBase before now = (base : ℕ) → IsSettled (HasBase base) before → RestsThroughout (HasBase base) before now
