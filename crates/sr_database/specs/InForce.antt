-- That the log of a value is the one in force on its site, and that the value is the database of what its files stand for.
use Rattle.std.specs.Prelude.{◌≡◌, ℕ, ◌+◌, List, length, Some}
use Rattle.sr_book.specs.Entries.{Name}
use Rattle.sr_database_history.specs.Recorded.{Recorded}
use Rattle.sr_logfile.specs.Log.{Log}
use Rattle.sr_logfile.specs.Records.{open_records, Spells}
use Rattle.sr_site.specs.Files.{Files, bytes_of}
use Rattle.sr_site.specs.Images.{IsSettled}
use Rattle.sr_site.specs.Seen.{Seen}
use Rattle.sr_database_meaning.specs.Generations.{Generation, log_of, generation_in}
use Rattle.sr_database_meaning.specs.Standing.{StandsFor}
use Rattle.sr_database.specs.Databases.{IsDatabase}
use Rattle.sr_database.specs.Views.{View}

-- the log is the one in force: the root names its generation, its file has some bodies, and it ends behind the last
pub record IsInForce (log : Log) (files : Files) : Type 0 where
  pub generation : Generation
  pub root : generation_in files.root ≡ Some generation
  pub log_is : log_of generation ≡ log.file
  pub bodies : List (List ℕ)
  pub spells : Spells log.base bodies (bytes_of files log.file)
  pub end_is : log.end ≡ log.base + length (open_records bodies)

-- the value's log is the one in force, and every crash leaves files in which it is; and of each history for which its files stand, if there is one, the
-- value is the database
pub record HasLogInForce (view : View) (seen : Seen) : Type 0 where
  pub now : IsInForce view.log seen.files
  pub settled : IsSettled (IsInForce view.log) seen
  pub each : (publisher : Name) (es : List Recorded) (base : ℕ) → StandsFor publisher es base seen.files → IsDatabase view publisher es seen
