-- What a database may commit by itself.
use Rattle.std.specs.Prelude.{◌≡◌, ℕ, List, Option}
use Rattle.sr_book.specs.Entries.{Name, local}
use Rattle.sr_database_history.specs.Folds.{State, sees, state_of, end_of}
use Rattle.sr_database_history.specs.Recorded.{Recorded, entry_of}
use Rattle.sr_logform.specs.declared.entry.Entry.{Entry}
use Rattle.sr_world.specs.Lawful.{IsLawful}
use Rattle.sr_world_steps.specs.Inner.Logs.{EndsOne, IsLog}
use Rattle.sr_world_steps.specs.Inner.Places.{Log}

-- an entry of the database's own that keeps every rule
pub record MayCommit (s : State) (place : ℕ) (entry : Entry) (r : Recorded) : Type 0 where
  pub is : entry_of r ≡ entry
  pub own : sees r ≡ local
  pub lawful : IsLawful s place r

-- where it would end behind a state and an offset
unfoldable pub CommitEndsIn : State → ℕ → Entry → Option ℕ → Type 0
CommitEndsIn s place entry end = EndsOne (MayCommit s place entry) place end

-- and behind the history that a log shows
unfoldable pub CommitEnds : Name → Log → Entry → Option ℕ → Type 0
CommitEnds d log entry end = (rs : List Recorded) → IsLog d rs log → CommitEndsIn (state_of d rs) (end_of rs) entry end
