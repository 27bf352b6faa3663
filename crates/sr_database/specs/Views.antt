-- What contracts see of an opened database.
use Rattle.std.specs.Prelude.{List}
use Rattle.sr_database_files.specs.Books.{BookMap}
use Rattle.sr_database_history.specs.Folds.{State}
use Rattle.sr_logfile.specs.Log.{Log}
use Rattle.sr_logform.specs.declared.change.Change.{Change}
use Rattle.sr_rows.specs.Marks.{Marked}
use Rattle.sr_catalog_schema.specs.Catalogs.{Lists}

-- the catalog, that at the log's base, the rows with the pending changes in them and as they were at the last commit, these changes, the
-- books, and the log with its end
pub record View : Type 0 where
  pub catalog : Lists
  pub base_catalog : Lists
  pub rows : Marked
  pub pending : List Change
  pub books : BookMap
  pub log : Log

-- what its committed entries come to
abbrev pub committed : View → State
committed view = record { catalog = view.catalog; rows = view.rows.marked }
