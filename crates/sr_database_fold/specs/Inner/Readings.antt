-- The next entry of a log: what it is taken to mean, and whether this fits the state.
use Rattle.std.specs.Prelude.{◌≡◌}
use Rattle.sr_database_history.specs.Fitting.{FitsState}
use Rattle.sr_database_history.specs.Folds.{State}
use Rattle.sr_database_history.specs.Recorded.{Recorded, entry_of, IsRecorded}
use Rattle.sr_logform.specs.declared.entry.Entry.{Entry}
use Rattle.sr_rows.specs.Marks.{Marked}
use Rattle.sr_catalog_schema.specs.Catalogs.{Lists}

-- the state that a catalog and rows are
abbrev pub state_in : Lists → Marked → State
state_in catalog rows = record { catalog = catalog; rows = rows.rows }

-- the entry is that of this recorded one, which fits the state
pub record FitsAs (s : State) (entry : Entry) (r : Recorded) : Type 0 where
  pub is : entry_of r ≡ entry
  pub meant : IsRecorded r
  pub fits : FitsState s r
