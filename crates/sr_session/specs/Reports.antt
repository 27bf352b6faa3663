-- What stands of entries that written lines tell of: all of them, whatever a crash leaves.
use Rattle.std.specs.Prelude.{List, ◌++◌}
use Rattle.sr_book.specs.Entries.{Name}
use Rattle.sr_database_history.specs.Recorded.{Recorded}
use Rattle.sr_site.specs.Files.{Files}
use Rattle.sr_site.specs.Images.{IsSettled}
use Rattle.sr_site.specs.Seen.{Seen}
use Rattle.sr_database_meaning.specs.Standing.{StandsAs}

-- files stand for a history that begins with this one
abbrev pub StandsFrom : Name → List Recorded → Files → Type 0
StandsFrom publisher es files = (more : List Recorded) × StandsAs publisher (es ++ more) files

-- whatever a crash may leave does so
abbrev pub Endures : Name → List Recorded → Seen → Type 0
Endures publisher es now = IsSettled (StandsFrom publisher es) now
