-- The entries of a history as its log shows them, and what a database stands at behind them.
use Rattle.std.specs.Prelude.{◌≡◌, ℕ, ◌+◌, List, [], ◌∷◌, Option, Some, None}
use Rattle.sr_base.specs.Values.{offset_from}
use Rattle.sr_book.specs.Entries.{Name}
use Rattle.sr_database_history.specs.Fitting.{stored_from}
use Rattle.sr_database_history.specs.Folds.{State, size, fresh}
use Rattle.sr_database_history.specs.Recorded.{Recorded, entry_of}
use Rattle.sr_world_steps.specs.Inner.Places.{Log}

-- the entries of a history that go on from an offset, each with the offset at which it ends
abbrev pub logged_from : ℕ → List Recorded → Log
logged_from place [] = []
logged_from place (r ∷ rs) = (offset_from (place + (size r + 5)), entry_of r) ∷ logged_from (place + (size r + 5)) rs

-- entries that go on from a state and an offset and may stand in a log, as this log shows them
pub record GoesOn (s : State) (place : ℕ) (rs : List Recorded) (log : Log) : Type 0 where
  pub stored : stored_from s place rs
  pub logged : logged_from place rs ≡ log

-- the history of a database, as its log shows it
abbrev pub IsLog : Name → List Recorded → Log → Type 0
IsLog d rs log = GoesOn (fresh d) 0 rs log

-- a log of some history
unfoldable pub HasLog : Name → Log → Type 0
HasLog d log = (rs : List Recorded) × IsLog d rs log

-- of all entries that an asked one may be, one is allowed and ends here; or none is
abbrev pub EndsOne : (Recorded → Type 0) → ℕ → Option ℕ → Type 0
EndsOne Fits place None = (r : Recorded) → ¬ (Fits r)
EndsOne Fits place (Some end) = (r : Recorded) × Fits r × (end ≡ place + (size r + 5))
