-- That entries have room in a log, one behind the other.
use Rattle.std.specs.Prelude.{⊤, ℕ, ◌+◌, ◌≤◌, length, List, [], ◌∷◌}
use Rattle.sr_logfile.specs.Records.{place_in}
use Rattle.sr_base.specs.Values.{farthest_offset}
use Rattle.sr_database_history.specs.Folds.{size}
use Rattle.sr_database_history.specs.Recorded.{Recorded, entry_of}
use Rattle.sr_logform.specs.Entries.{entry_spelling}
use Rattle.sr_logform.specs.Limits.{farthest_end, longest_body}
use Rattle.sr_logform.specs.declared.entry.Entry.{Entry}
use Rattle.sr_database.specs.Commits.{framed_size}

-- an entry has room in a log with this base behind this offset: it is not too long, and its record passes neither its kind's bound in the file nor the
-- last offset
pub record HasRoomAt (base place : ℕ) (entry : Entry) : Type 0 where
  pub short : length (entry_spelling entry) ≤ longest_body entry
  pub file : place_in base place + 1 + framed_size entry ≤ farthest_end entry
  pub offset : place + framed_size entry ≤ farthest_offset

-- entries have room, one behind the other
abbrev pub HaveRoom : ℕ → ℕ → List Recorded → Type 0
HaveRoom base place [] = ⊤
HaveRoom base place (r ∷ rs) = HasRoomAt base place (entry_of r) × HaveRoom base (place + (size r + 5)) rs
