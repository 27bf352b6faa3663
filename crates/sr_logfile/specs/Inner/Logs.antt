-- Where the gate of a log stands in its file, and when a record has no room.
-- Here is what no contract of the program says by itself.
use Rattle.std.specs.Prelude.{◌≡◌, ℕ, ◌+◌, false, List, ◌++◌, length}
use Rattle.sr_site.specs.Files.{Files, bytes_of}
use Rattle.sr_logfile.specs.Log.{Log}
use Rattle.sr_logfile.specs.Records.{open_records, Spells}

-- the log's file holds these bodies, and the log ends behind the last
pub record IsLog (log : Log) (bodies : List (List ℕ)) (files : Files) : Type 0 where
  pub spells : Spells log.base bodies (bytes_of files log.file)
  pub end_is : log.end ≡ log.base + length (open_records bodies)

-- the log's file holds some bodies
pub record HasLog (log : Log) (files : Files) : Type 0 where
  pub bodies : List (List ℕ)
  pub is_log : IsLog log bodies files

-- the position `after` parts the log's bodies: those done before it, those left behind it
pub record IsAt (log : Log) (after : ℕ) (done left : List (List ℕ)) (files : Files) : Type 0 where
  pub is_log : IsLog log (done ++ left) files
  pub after_is : after ≡ log.base + length (open_records done)

-- the log after a record of so many framed bytes
abbrev pub longer : Log → ℕ → Log
longer log count = record log { end = log.end + count }

-- the log after a call that the disk refused
abbrev pub spent : Log → Log
spent log = record log { usable = false }
