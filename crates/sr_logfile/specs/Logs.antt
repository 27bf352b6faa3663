-- Where the gate of a log stands in its file, and when a record has no room.
use Rattle.std.specs.Prelude.{ℕ, ◌+◌, ◌<◌, ◌⊎◌}
use Rattle.sr_base.specs.Values.{farthest_offset}
use Rattle.sr_logfile.specs.Log.{Log}
use Rattle.sr_logfile.specs.Records.{place_in}

-- the place in the file of the log's first closed gate
abbrev pub gate_of : Log → ℕ
gate_of log = place_in log.base log.end

-- a record of so many framed bytes has no room: in the file up to a bound, or in front of the last offset
abbrev pub IsFull : Log → ℕ → ℕ → Type 0
IsFull log count bound = (bound < gate_of log + 1 + count) ⊎ (farthest_offset < log.end + count)
