-- A log that is begun anew: its steps, and why it is refused.
-- Here is what no contract of the program says by itself.
use Rattle.std.specs.Prelude.{◌≡◌, ◌≤◌, ◌<◌, ◌⊎◌, ℕ, List, ◌++◌, length, IsTrue}
use Rattle.sr_base.specs.declared.offset.Offset.{Offset}
use Rattle.sr_book.specs.Entries.{Name}
use Rattle.sr_book.specs.Histories.{book_from}
use Rattle.sr_catalog_schema.specs.Catalogs.{Lists}
use Rattle.sr_database_files.specs.Books.{BookMap, book_in, listed}
use Rattle.sr_database_files.specs.Inner.Openings.{ReadAlone}
use Rattle.sr_database_files.specs.declared.fault.DatabaseFault.{DatabaseFault}
use Rattle.sr_database_files.specs.declared.fault.DatabaseFault.TheVariants.{Missing, Exists, Damaged, Disk, Full, Long, Memory}
use Rattle.sr_database_history.specs.Folds.{end_from, sees, state_from}
use Rattle.sr_database_history.specs.Recorded.{Recorded}
use Rattle.sr_database_meaning.specs.Generations.{log_of, generation_of}
use Rattle.sr_database_meaning.specs.Standing.{StandFrom, bodies}
use Rattle.sr_database_replay.specs.Inner.Stops.{IsEndIn, lines_of}
use Rattle.sr_database_replay.specs.Stops.{beginning_from}
use Rattle.sr_database_restart.specs.Inner.Restarting.{IsRestarted, KeepsInForce, WentOver}
use Rattle.sr_database_restart.specs.declared.fault.RestartFault.{RestartFault}
use Rattle.sr_database_restart.specs.declared.fault.RestartFault.TheVariants as restarts
use Rattle.sr_logfile.specs.Inner.Logs.{spent}
use Rattle.sr_logfile.specs.Log.{Log}
use Rattle.sr_logfile_carry.specs.Inner.Carrying.{log_of_records}
use Rattle.sr_rows.specs.Marks.{RowMap}
use Rattle.sr_site.specs.Causes.{Rose}
use Rattle.sr_site.specs.Images.{RestsThroughout}
use Rattle.sr_site.specs.Seen.{Seen}
use Rattle.sr_snapshot.specs.Beginnings.{Beginning}
use Rattle.sr_snapshot.specs.Parts.{longest}
use Rattle.sr_snapshot.specs.Snapshots.{snapshot_spelling}
use Rattle.sr_database.specs.Inner.Entries.{IsEnd}
use Rattle.sr_database.specs.Restarts.{IsEndBehind, IsTooLongAt}
use Rattle.sr_database.specs.Views.{View}

-- ---- what a crash may leave on the way

-- ---- why it is refused

-- no history of the value, and no list of entries behind a beginning, is parted there
pub record IsNoEnd (view : View) (keep : Offset) (seen : Seen) : Type 0 where
  pub behind : ¬ (IsEndBehind view keep.0 seen)
  pub history : ¬ (IsEnd view keep seen)

-- the disk refused: the value is not used again, and is else as it was
pub record IsSpentThere (old new : View) (before now : Seen) : Type 0 where
  pub rose : Rose before.disk_faults now.disk_faults
  pub spent_is : new ≡ record old { log = spent old.log }

-- nothing happened but reads, and no call failed
pub record IsReadStill (before now : Seen) : Type 0 where
  pub read : ReadAlone before now
  pub steady : now.disk_faults ≡ before.disk_faults

-- why a log is not begun anew: after the disk's refusal the value is not used again, else it is as it was. It is damaged only where the disk does not tell
-- what it holds, or the offset is no entry's end; and where the snapshot is too long nothing was written
abbrev pub AnewCause : View → View → Offset → Seen → Seen → DatabaseFault → Type 0
AnewCause old new keep before now Missing = ⊥
AnewCause old new keep before now Exists = ⊥
AnewCause old new keep before now (Damaged file at) = (IsTrue before.observable → IsNoEnd old keep before) × (new ≡ old) × (now.disk_faults ≡ before.disk_faults)
AnewCause old new keep before now Disk = IsSpentThere old new before now
AnewCause old new keep before now (Full end need) = ⊥
AnewCause old new keep before now (Long size limit) = IsTooLongAt old keep.0 before size limit × (new ≡ old) × IsReadStill before now
AnewCause old new keep before now Memory = (new ≡ old) × (now.disk_faults ≡ before.disk_faults)

-- ---- the log alone

-- the files stand for these entries behind a beginning, and the log is the one in force
pub record IsLogFrom (log : Log) (b : Beginning) (es : List Recorded) (seen : Seen) : Type 0 where
  pub stands : StandFrom b es seen.files
  pub log_is : log_of stands.generation ≡ log.file
  pub base_is : log.base ≡ b.place
  pub end_is : log.end ≡ end_from b.place es

-- for some entries behind some beginning
pub record HasLogFrom (log : Log) (seen : Seen) : Type 0 where
  pub beginning : Beginning
  pub es : List Recorded
  pub is : IsLogFrom log beginning es seen

-- what a value holds is what these entries behind a beginning come to
pub record IsOwn (catalog : Lists) (rows : RowMap) (books : BookMap) (b : Beginning) (es : List Recorded) : Type 0 where
  pub catalog_is : catalog ≡ (state_from b.state es).catalog
  pub rows_are : rows ≡ (state_from b.state es).rows
  pub books_are : (user : Name) → book_in books user ≡ book_from sees user (listed b.books user) es

-- what a value holds, as what stands at an offset
abbrev pub own_beginning : Lists → RowMap → BookMap → ℕ → Beginning
own_beginning catalog rows books keep = record { place = keep; state = record { catalog = catalog; rows = rows }; books = lines_of books catalog.users }

-- where nothing is pending and the offset is the log's end, a value holds what its entries come to
pub record HoldsOwn (log : Log) (keep : ℕ) (catalog : Lists) (rows : RowMap) (books : BookMap) (seen : Seen) : Type 0 where
  pub end : keep ≡ log.end
  pub own : IsTrue seen.observable → (b : Beginning) (es : List Recorded) → IsLogFrom log b es seen → IsOwn catalog rows books b es

-- entries behind a beginning are parted at an offset, and this is what the first of them come to
pub record IsPartedAt (b : Beginning) (es : List Recorded) (keep : ℕ) (found : Beginning) : Type 0 where
  pub done : List Recorded
  pub left : List Recorded
  pub parts : es ≡ done ++ left
  pub keep_is : keep ≡ end_from b.place done
  pub found_is : found ≡ beginning_from b done

-- why the state at an offset is not found: damage only where the offset parts no entries; but for the disk's refusal no call of the disk failed
abbrev pub StateCause : Log → ℕ → Seen → Seen → DatabaseFault → Type 0
StateCause log keep before now Missing = ⊥
StateCause log keep before now Exists = ⊥
StateCause log keep before now (Damaged file at) = (IsTrue before.observable → (b : Beginning) (es : List Recorded) → IsLogFrom log b es before → ¬ (IsEndIn b.place es keep)) × (now.disk_faults ≡ before.disk_faults)
StateCause log keep before now Disk = Rose before.disk_faults now.disk_faults
StateCause log keep before now (Full end need) = ⊥
StateCause log keep before now (Long size limit) = ⊥
StateCause log keep before now Memory = now.disk_faults ≡ before.disk_faults

-- the other generation has the snapshot of what the entries up to the offset come to, and a log of those behind it, and is in force, whatever a crash leaves
pub record HasBegun (log : Log) (keep : ℕ) (b : Beginning) (es : List Recorded) (before now : Seen) (base_catalog : Lists) : Type 0 where
  pub done : List Recorded
  pub left : List Recorded
  pub parts : es ≡ done ++ left
  pub keep_is : keep ≡ end_from b.place done
  pub catalog_is : base_catalog ≡ (state_from b.state done).catalog
  pub short : length (snapshot_spelling (beginning_from b done)) ≤ longest
  pub restarted : IsRestarted (generation_of log.file) (snapshot_spelling (beginning_from b done)) (log_of_records keep (bodies left)) before now

-- it was written, and then the root
pub record WentAnew (log : Log) (keep : ℕ) (b : Beginning) (es : List Recorded) (before now : Seen) : Type 0 where
  pub done : List Recorded
  pub left : List Recorded
  pub parts : es ≡ done ++ left
  pub keep_is : keep ≡ end_from b.place done
  pub short : length (snapshot_spelling (beginning_from b done)) ≤ longest
  pub went : WentOver (generation_of log.file) (snapshot_spelling (beginning_from b done)) (log_of_records keep (bodies left)) before now

-- so it went, or it did not come to the root
abbrev pub MayGoAnew : Log → ℕ → Beginning → List Recorded → Seen → Seen → Type 0
MayGoAnew log keep b es before now = RestsThroughout (KeepsInForce (generation_of log.file) before) before now ⊎ WentAnew log keep b es before now

-- the snapshot of what stands at the offset has so many bytes, more than one may have
pub record IsLongAt (log : Log) (keep : ℕ) (before : Seen) (size limit : ℕ) : Type 0 where
  pub long : longest < size
  pub limit_is : limit ≡ longest
  pub size_is : IsTrue before.observable → (b : Beginning) (done left : List Recorded) → IsLogFrom log b (done ++ left) before → keep ≡ end_from b.place done
      → size ≡ length (snapshot_spelling (beginning_from b done))

-- why no other generation was put in force
abbrev pub BeginCause : Log → ℕ → Seen → Seen → DatabaseFault → Type 0
BeginCause log keep before now Missing = ⊥
BeginCause log keep before now Exists = ⊥
BeginCause log keep before now (Damaged file at) = (IsTrue before.observable → (b : Beginning) (es : List Recorded) → IsLogFrom log b es before → ¬ (IsEndIn b.place es keep)) × (now.disk_faults ≡ before.disk_faults)
BeginCause log keep before now Disk = Rose before.disk_faults now.disk_faults
BeginCause log keep before now (Full end need) = ⊥
BeginCause log keep before now (Long size limit) = IsLongAt log keep before size limit × IsReadStill before now
BeginCause log keep before now Memory = now.disk_faults ≡ before.disk_faults

-- the fault of a database whose files are not begun anew
abbrev pub IsRestartFault : RestartFault → DatabaseFault → Type 0
IsRestartFault restarts.Disk answer = answer ≡ Disk
IsRestartFault restarts.Memory answer = answer ≡ Memory
IsRestartFault (restarts.Long size limit) answer = answer ≡ Long size limit
IsRestartFault (restarts.Damaged file at) answer = answer ≡ Damaged file at

-- a log behind a fault: after the disk's refusal it is not used again
abbrev pub IsSpentAt : DatabaseFault → Log → Log → Type 0
IsSpentAt Missing old new = new ≡ old
IsSpentAt Exists old new = new ≡ old
IsSpentAt (Damaged file at) old new = new ≡ old
IsSpentAt Disk old new = new ≡ spent old
IsSpentAt (Full end need) old new = new ≡ old
IsSpentAt (Long size limit) old new = new ≡ old
IsSpentAt Memory old new = new ≡ old
