-- Where a database is made.
use Rattle.std.specs.Prelude.{◌≡◌, ◌≢◌, ◌⊎◌, []}
use Rattle.sr_book.specs.Entries.{Name}
use Rattle.sr_site.specs.Files.{Files}
use Rattle.sr_database_meaning.specs.Standing.{StandsAs}

-- there is none, or it is that of this publisher and has no entry
abbrev pub IsNoneOrNew : Name → Files → Type 0
IsNoneOrNew publisher files = (files.root ≡ []) ⊎ StandsAs publisher [] files

-- there is one, whatever it holds
abbrev pub IsThere : Files → Type 0
IsThere files = files.root ≢ []
