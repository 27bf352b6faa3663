-- What a restart makes of the history that the files stand for.
-- Here is what no contract of the program says by itself.
use Rattle.std.specs.Prelude.{◌≡◌, ℕ, List, ◌++◌, Some}
use Rattle.sr_base.specs.Fields.{IsName}
use Rattle.sr_book.specs.Entries.{Name}
use Rattle.sr_database_history.specs.Fitting.{Stored}
use Rattle.sr_database_history.specs.Folds.{end_of}
use Rattle.sr_database_history.specs.Recorded.{Recorded}
use Rattle.sr_database_meaning.specs.Generations.{Generation, generation_in}
use Rattle.sr_database_meaning.specs.Standing.{IsSnapshotAt, bodies}
use Rattle.sr_logfile.specs.Records.{Spells}
use Rattle.sr_site.specs.Files.{Files}

-- the root names a generation
abbrev pub Names : Generation → Files → Type 0
Names generation files = generation_in files.root ≡ Some generation

-- a snapshot and a log of these bytes hold a history: the one what its entries up to this base come to, the other those behind it
pub record HoldsHistory (publisher : Name) (es : List Recorded) (base : ℕ) (snapshot log : List ℕ) : Type 0 where
  pub name : IsName publisher
  pub stored : Stored publisher es
  pub done : List Recorded
  pub left : List Recorded
  pub parts : es ≡ done ++ left
  pub base_is : base ≡ end_of done
  pub snapshot_is : IsSnapshotAt publisher done snapshot
  pub log_is : Spells base (bodies left) log
