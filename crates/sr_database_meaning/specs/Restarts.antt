-- What a restart of the log leaves on the way, at each moment of it.
use Rattle.std.specs.Prelude.{◌⊎◌, ℕ, List, ◌≡◌}
use Rattle.sr_book.specs.Entries.{Name}
use Rattle.sr_database_history.specs.Recorded.{Recorded}
use Rattle.sr_database_meaning.specs.Events.{attaches_in, puts_in}
use Rattle.sr_database_meaning.specs.Generations.{Generation, named, other_of}
use Rattle.sr_database_meaning.specs.Standing.{StandsFor}
use Rattle.sr_site.specs.Files.{Files, with_bytes}
use Rattle.sr_site.specs.Happenings.{Happening}
use Rattle.sr_site.specs.Images.{RestsThroughout}
use Rattle.sr_site.specs.Seen.{Seen}
use Rattle.sr_site.specs.declared.file.File.TheVariants.{Root}

-- files stand for a history whose log begins at the one base or at the other
abbrev pub StandsAtEither : Name → List Recorded → ℕ → ℕ → Files → Type 0
StandsAtEither publisher es base keep image = StandsFor publisher es base image ⊎ StandsFor publisher es keep image

-- files stand for a history whichever generation the root names
pub record StandsAtBoth (generation : Generation) (publisher : Name) (es : List Recorded) (base keep : ℕ) (image : Files) : Type 0 where
  pub old : StandsFor publisher es base (with_bytes image Root (named generation image.root))
  pub new : StandsFor publisher es keep (with_bytes image Root (named (other_of generation) image.root))
  pub either : StandsAtEither publisher es base keep image

-- up to a moment files stand for the history as they did, with a log from the old base; from then on both generations stand for it, whichever the root names
pub record GoesOver (generation : Generation) (publisher : Name) (es : List Recorded) (base keep : ℕ) (before now : Seen) : Type 0 where
  pub middle : Seen
  pub first : middle.first ≡ before.first
  pub writing : RestsThroughout (StandsFor publisher es base) before middle
  pub naming : RestsThroughout (StandsAtBoth generation publisher es base keep) middle now

-- so it went, or it did not come to the root
abbrev pub MayGoOver : Generation → Name → List Recorded → ℕ → ℕ → Seen → Seen → Type 0
MayGoOver generation publisher es base keep before now = RestsThroughout (StandsFor publisher es base) before now ⊎ GoesOver generation publisher es base keep before now

-- nothing was attached, and no message was put
pub record IsQuiet (before now : List Happening) : Type 0 where
  pub attached : attaches_in now ≡ attaches_in before
  pub put : puts_in now ≡ puts_in before
