-- A log that is begun anew.
use Rattle.std.specs.Prelude.{◌≡◌, ◌<◌, ℕ, List, ◌++◌, length, IsTrue}
use Rattle.sr_database_history.specs.Folds.{end_from}
use Rattle.sr_database_history.specs.Recorded.{Recorded}
use Rattle.sr_database_meaning.specs.Generations.{log_of, generation_of, other_of}
use Rattle.sr_database_replay.specs.Stops.{beginning_from}
use Rattle.sr_logfile_carry.specs.Carried.{carried}
use Rattle.sr_site.specs.Seen.{Seen}
use Rattle.sr_snapshot.specs.Beginnings.{Beginning}
use Rattle.sr_snapshot.specs.Parts.{longest}
use Rattle.sr_snapshot.specs.Snapshots.{snapshot_spelling}
use Rattle.sr_database.specs.Databases.{IsDatabaseFrom}
use Rattle.sr_database.specs.Views.{View}

-- the value goes on with a log that begins at the offset: that of the other generation, which ends where the old one did. All else is as it was, but for
-- the catalog at the base
pub record BeginsAnew (keep : ℕ) (old new : View) : Type 0 where
  pub catalog : new.catalog ≡ old.catalog
  pub rows : new.rows ≡ old.rows
  pub pending : new.pending ≡ old.pending
  pub books : new.books ≡ old.books
  pub log : new.log ≡ carried old.log keep (log_of (other_of (generation_of old.log.file)))

-- the snapshot of what stands at the offset has so many bytes, more than one may have
pub record IsTooLongAt (view : View) (keep : ℕ) (seen : Seen) (size limit : ℕ) : Type 0 where
  pub long : longest < size
  pub limit_is : limit ≡ longest
  pub size_is : IsTrue seen.observable → (b : Beginning) (done left : List Recorded) → IsDatabaseFrom view b (done ++ left) seen → keep ≡ end_from b.place done
      → size ≡ length (snapshot_spelling (beginning_from b done))

-- the offset is the base of the value's log, or the end of one of the entries that it holds
pub record IsEndBehind (view : View) (keep : ℕ) (seen : Seen) : Type 0 where
  pub beginning : Beginning
  pub done : List Recorded
  pub left : List Recorded
  pub is : IsDatabaseFrom view beginning (done ++ left) seen
  pub keep_is : keep ≡ end_from beginning.place done
