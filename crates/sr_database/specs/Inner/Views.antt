-- What contracts see of an opened database.
-- Here is what no contract of the program says by itself.
use Rattle.sr_database_history.specs.Folds.{State}
use Rattle.sr_database.specs.Views.{View}

-- the same with the pending changes
abbrev pub present : View → State
present view = record { catalog = view.catalog; rows = view.rows.rows }
