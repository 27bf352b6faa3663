-- Files that stand for no history: those of no database, and damage with its file and place. A snapshot that keeps the grammar may be that of no history:
-- so the damage of a log is said behind a beginning.
use Rattle.std.specs.Prelude.{◌≡◌, ◌≢◌, ◌⊎◌, ℕ, List, [], ◌∷◌, ◌++◌, length, Some}
use Rattle.sr_database_history.specs.Fitting.{Fits, stored_from}
use Rattle.sr_database_history.specs.Folds.{State, state_from, end_from}
use Rattle.sr_database_history.specs.Recorded.{Recorded}
use Rattle.sr_logfile.specs.Damage.{LacksHeader, LacksRecord}
use Rattle.sr_logfile.specs.Records.{header, record_of, open_records, HasHeader, Spells}
use Rattle.sr_site.specs.Files.{Files, bytes_of}
use Rattle.sr_site.specs.declared.file.File.{File}
use Rattle.sr_site.specs.declared.file.File.TheVariants.{Root, Log0, Log1, Snap0, Snap1}
use Rattle.sr_snapshot.specs.Beginnings.{Beginning}
use Rattle.sr_snapshot.specs.Snapshots.{IsSnapshot}
use Rattle.sr_snapshot_read.specs.Damages.{IsDamagedSnapshot}
use Rattle.sr_database_meaning.specs.Generations.{Generation, even, odd, snapshot_of, log_of, generation_in}
use Rattle.sr_database_meaning.specs.Standing.{body, bodies}

-- no database: the root has no byte
abbrev pub IsMissing : Files → Type 0
IsMissing files = files.root ≡ []

-- what follows an open gate begins with the whole record of this entry, which may stand in this state and behind this offset, and a gate
pub record BeginsEntry (s : State) (place : ℕ) (r : Recorded) (rest : List ℕ) : Type 0 where
  pub gate : ℕ
  pub more : List ℕ
  pub rest_is : rest ≡ record_of (body r) ++ gate ∷ more
  pub fits : Fits s place r

-- the header has another base
pub record HasOtherBase (base : ℕ) (bytes : List ℕ) : Type 0 where
  pub other : ℕ
  pub header : HasHeader other bytes
  pub differs : other ≢ base

-- the first open gate that no whole record follows, behind a header of this base, stands at this place
pub record LacksRecordAt (base : ℕ) (bytes : List ℕ) (place : ℕ) : Type 0 where
  pub lacks : LacksRecord bytes place
  pub base_is : lacks.base ≡ base

-- behind a beginning all records are whole, and the first one that may not stand there has its open gate at this place
pub record LacksEntry (b : Beginning) (bytes : List ℕ) (place : ℕ) : Type 0 where
  pub all : List (List ℕ)
  pub spells : Spells b.place all bytes
  pub es : List Recorded
  pub rest : List ℕ
  pub bytes_are : bytes ≡ (header b.place ++ open_records (bodies es)) ++ 1 ∷ rest
  pub place_is : place ≡ length (header b.place ++ open_records (bodies es))
  pub stored : stored_from b.state b.place es
  pub broken : (r : Recorded) → BeginsEntry (state_from b.state es) (end_from b.place es) r rest → ⊥

-- a log behind a beginning is damaged at 0 where its header is not whole, at 8 where its base is not that of the beginning, which its snapshot tells, else
-- at the gate of its first record that is not as written, and where each is, at that of the first one that may not stand there
abbrev pub IsDamagedLog : Beginning → List ℕ → ℕ → Type 0
IsDamagedLog b bytes place =
    (LacksHeader bytes × (place ≡ 0)) ⊎ ((HasOtherBase b.place bytes × (place ≡ 8)) ⊎ (LacksRecordAt b.place bytes place ⊎ LacksEntry b bytes place))

-- the snapshot breaks at a place
pub record HasDamagedSnapshot (generation : Generation) (files : Files) (place : ℕ) : Type 0 where
  pub root : generation_in files.root ≡ Some generation
  pub broken : IsDamagedSnapshot (bytes_of files (snapshot_of generation)) place

-- the snapshot is that of a beginning, and the log behind it is damaged at a place
pub record HasDamagedLog (generation : Generation) (files : Files) (place : ℕ) : Type 0 where
  pub root : generation_in files.root ≡ Some generation
  pub beginning : Beginning
  pub snapshot : IsSnapshot beginning (bytes_of files (snapshot_of generation))
  pub damage : IsDamagedLog beginning (bytes_of files (log_of generation)) place

-- the files are damaged in this file, at this place. Each byte of a root names a generation: it is never the root
abbrev pub IsDamagedAt : File → ℕ → Files → Type 0
IsDamagedAt Root place files = ⊥
IsDamagedAt Snap0 place files = HasDamagedSnapshot even files place
IsDamagedAt Snap1 place files = HasDamagedSnapshot odd files place
IsDamagedAt Log0 place files = HasDamagedLog even files place
IsDamagedAt Log1 place files = HasDamagedLog odd files place
