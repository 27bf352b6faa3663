-- The value of what was read of a log from its base.
-- Here is what no contract of the program says by itself.
use Rattle.std.specs.Prelude.{◌≡◌, ℕ, List, IsTrue}
use Rattle.sr_catalog_schema.specs.Catalogs.{Lists}
use Rattle.sr_database_files.specs.Books.{BookMap}
use Rattle.sr_database_history.specs.Recorded.{Recorded}
use Rattle.sr_database_meaning.specs.Standing.{bodies}
use Rattle.sr_database_replay.specs.Inner.Replays.{IsReplayed}
use Rattle.sr_logfile.specs.Records.{Spells}
use Rattle.sr_rows.specs.Marks.{Marked}
use Rattle.sr_site.specs.Files.{bytes_of}
use Rattle.sr_site.specs.Seen.{Seen}
use Rattle.sr_site.specs.declared.file.File.{File}
use Rattle.sr_snapshot.specs.Beginnings.{Beginning}
use Rattle.sr_database.specs.Databases.{IsFrom}
use Rattle.sr_database.specs.Views.{View}

-- at its beginning a log begins with this base and that catalog
pub record IsReplayedBehind (catalog : Lists) (rows : Marked) (books : BookMap) (position base : ℕ) (base_catalog : Lists) : Type 0 where
  pub beginning : Beginning
  pub es : List Recorded
  pub is : IsReplayed catalog rows books position beginning es
  pub base_is : base ≡ beginning.place
  pub catalog_is : base_catalog ≡ beginning.state.catalog

-- the value is that of the entries which the log spells behind a beginning
pub record IsOpened (db : View) (log : File) (b : Beginning) (seen : Seen) : Type 0 where
  pub file_is : db.log.file ≡ log
  pub left : List Recorded
  pub is : IsFrom db b left
  pub spells : IsTrue seen.observable → Spells b.place (bodies left) (bytes_of seen.files log)
