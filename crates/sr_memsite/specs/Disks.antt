-- The disk in memory: its files, and what was done to them.
use Rattle.std.specs.Prelude.{List, []}
use Rattle.sr_site.specs.Files.{Files}
use Rattle.sr_site.specs.Happenings.{Happening}
use Rattle.sr_memsite_disk.specs.Picks.{standing}

-- the files at the beginning, and what happened since then, the newest first
pub record Disk : Type 0 where
  pub first : Files
  pub happened : List Happening

-- the files as a read gives them
abbrev pub files_in : Disk → Files
files_in disk = standing disk.first disk.happened

-- files with which all begins anew
abbrev pub begun_with : Files → Disk
begun_with files = record { first = files; happened = [] }
