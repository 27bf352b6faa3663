-- The catalog and the rows behind a history.
use Rattle.std.specs.Prelude.{◌≡◌, List}
use Rattle.sr_book.specs.Entries.{Name}
use Rattle.sr_catalog_schema.specs.Catalogs.{Lists}
use Rattle.sr_database_fold.specs.Inner.Readings.{state_in}
use Rattle.sr_database_history.specs.Folds.{state_of}
use Rattle.sr_database_history.specs.Inner.Laws.{Holds}
use Rattle.sr_database_history.specs.Recorded.{Recorded}
use Rattle.sr_rows.specs.Inner.Steps.{at_mark}
use Rattle.sr_rows.specs.Marks.{Marked}
use Rattle.sr_world_steps.specs.Inner.Logs.{IsLog}
use Rattle.sr_world_steps.specs.Inner.Places.{Log}

-- they are those of the history that this log shows
pub record StandsBehind (d : Name) (log : Log) (catalog : Lists) (rows : Marked) : Type 0 where
  pub holds : Holds (state_in catalog rows)
  pub fresh : rows ≡ at_mark rows.rows
  pub state : (rs : List Recorded) → IsLog d rs log → state_in catalog rows ≡ state_of d rs
