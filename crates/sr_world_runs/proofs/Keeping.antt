-- Where the log in force keeps what partners need: of a new database, and at each moment of a stretch.
use Rattle.std.proofs.Common.{List, [], ◌∷◌, ◌++◌, le_refl}
use Rattle.sr_book.specs.Entries.{Name}
use Rattle.sr_database_meaning.specs.Standing.{StandsAs}
use Rattle.sr_database_meaning.specs.Traces.{AtEach}
use Rattle.sr_site.specs.Files.{Files}
use Rattle.sr_site.specs.Happenings.{Happening, Throughout}
use Rattle.sr_world_prefix.specs.Kept.{StandsKeeping}

-- nobody needs anything of a database without entries
pub new_keeps : (owner : Name) (image : Files) → StandsAs owner [] image → StandsKeeping owner [] image
new_keeps owner image s = record { base = s.base; stands = s.stands; needs = record { needed = λ user. tt; ordered = λ user. le_refl 0 } }

-- what is so throughout a stretch is so at each of its moments
pub at_moments : (P : List Happening → Type 0) (past more : List Happening) → Throughout P past more → AtEach (λ since. P (since ++ past)) more
at_moments P past [] holds = holds
at_moments P past (step ∷ more) holds = (holds.0, at_moments P past more holds.1)
