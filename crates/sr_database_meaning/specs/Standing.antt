-- The history that five files stand for.
use Rattle.std.specs.Prelude.{◌≡◌, ℕ, List, ◌++◌, map, Some}
use Rattle.sr_base.specs.Fields.{IsName}
use Rattle.sr_book.specs.Entries.{Name}
use Rattle.sr_database_history.specs.Fitting.{Stored, stored_from}
use Rattle.sr_database_history.specs.Folds.{end_of}
use Rattle.sr_database_history.specs.Recorded.{Recorded, entry_of}
use Rattle.sr_logfile.specs.Records.{Spells}
use Rattle.sr_logform.specs.Entries.{entry_spelling}
use Rattle.sr_site.specs.Files.{Files, bytes_of}
use Rattle.sr_snapshot.specs.Beginnings.{Beginning, beginning_behind}
use Rattle.sr_snapshot.specs.Snapshots.{IsSnapshot}
use Rattle.sr_database_meaning.specs.Generations.{Generation, snapshot_of, log_of, generation_in}

-- the body of an entry's record
abbrev pub body : Recorded → List ℕ
body r = entry_spelling (entry_of r)

abbrev pub bodies : List Recorded → List (List ℕ)
bodies es = map body es

-- the bytes are a snapshot of what these entries come to, those that lie before a log
unfoldable pub IsSnapshotAt : Name → List Recorded → List ℕ → Type 0
IsSnapshotAt publisher done bytes = IsSnapshot (beginning_behind publisher done) bytes

-- the files stand for the history of this publisher: of the generation that the root names, the snapshot is that of the entries up to the log's
-- base, and the log's open records are those that are left. The other generation is free, and so is what lies behind the log's closed gate
pub record StandsFor (publisher : Name) (es : List Recorded) (base : ℕ) (files : Files) : Type 0 where
  pub generation : Generation
  pub root : generation_in files.root ≡ Some generation
  pub name : IsName publisher
  pub stored : Stored publisher es
  pub done : List Recorded
  pub left : List Recorded
  pub parts : es ≡ done ++ left
  pub base_is : base ≡ end_of done
  pub snapshot : IsSnapshotAt publisher done (bytes_of files (snapshot_of generation))
  pub log : Spells base (bodies left) (bytes_of files (log_of generation))

-- wherever the log begins
pub record StandsAs (publisher : Name) (es : List Recorded) (files : Files) : Type 0 where
  pub base : ℕ
  pub stands : StandsFor publisher es base files

-- the files stand for these entries behind a beginning, whether a history leads to it or not: of the generation that the root names, the snapshot is that
-- of the beginning, and the log's open records are those of the entries, which may stand there
pub record StandFrom (b : Beginning) (es : List Recorded) (files : Files) : Type 0 where
  pub generation : Generation
  pub root : generation_in files.root ≡ Some generation
  pub snapshot : IsSnapshot b (bytes_of files (snapshot_of generation))
  pub stored : stored_from b.state b.place es
  pub log : Spells b.place (bodies es) (bytes_of files (log_of generation))
