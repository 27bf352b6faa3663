-- A log that is read again up to an offset, and the state there.
-- Here is what no contract of the program says by itself.
use Rattle.std.specs.Prelude.{◌≡◌, ℕ, List, ◌++◌, map, IsTrue}
use Rattle.sr_book.specs.Entries.{Name}
use Rattle.sr_book.specs.declared.book.Book.{Book}
use Rattle.sr_catalog_schema.specs.Catalogs.{Lists}
use Rattle.sr_catalog_schema.specs.declared.user.User.{User}
use Rattle.sr_database_files.specs.Books.{BookMap, book_in}
use Rattle.sr_database_files.specs.declared.fault.DatabaseFault.{DatabaseFault}
use Rattle.sr_database_files.specs.declared.fault.DatabaseFault.TheVariants.{Missing, Exists, Damaged, Disk, Full, Long, Memory}
use Rattle.sr_database_history.specs.Fitting.{stored_from}
use Rattle.sr_database_history.specs.Folds.{end_from}
use Rattle.sr_database_history.specs.Recorded.{Recorded}
use Rattle.sr_database_meaning.specs.Standing.{bodies}
use Rattle.sr_database_replay.specs.Stops.{beginning_from}
use Rattle.sr_logfile.specs.Records.{Spells}
use Rattle.sr_rows.specs.Marks.{Marked}
use Rattle.sr_site.specs.Causes.{Rose}
use Rattle.sr_site.specs.Files.{bytes_of}
use Rattle.sr_site.specs.Seen.{Seen}
use Rattle.sr_site.specs.declared.file.File.{File}
use Rattle.sr_snapshot.specs.Beginnings.{Beginning, IsBeginning}
use Rattle.sr_database_replay.specs.Inner.Replays.{IsReplayed, HasRead}

-- the books of users, in their order
abbrev pub lines_of : BookMap → List User → List (Name × Book)
lines_of books users = map (λ (u : User). (u.name, book_in books u.name)) users

-- entries were read behind a beginning up to an offset, and the log begins with them
pub record HasStopped (catalog : Lists) (rows : Marked) (books : BookMap) (keep : ℕ) (b : Beginning) (log : File) (seen : Seen) : Type 0 where
  pub es : List Recorded
  pub is : IsReplayed catalog rows books keep b es
  pub read : IsTrue seen.observable → HasRead b.place es keep (bytes_of seen.files log)

-- the state at an offset: what the entries behind a beginning come to with which the log begins up to there
pub record IsStateAt (b : Beginning) (keep : ℕ) (log : File) (seen : Seen) (found : Beginning) : Type 0 where
  pub es : List Recorded
  pub begins : IsBeginning b
  pub stored : stored_from b.state b.place es
  pub keep_is : keep ≡ end_from b.place es
  pub found_is : found ≡ beginning_from b es
  pub read : IsTrue seen.observable → HasRead b.place es keep (bytes_of seen.files log)

-- an offset parts entries behind a place: it is the place, or the end of one of them
pub record IsEndIn (place : ℕ) (es : List Recorded) (keep : ℕ) : Type 0 where
  pub done : List Recorded
  pub left : List Recorded
  pub parts : es ≡ done ++ left
  pub keep_is : keep ≡ end_from place done

-- whichever entries the bytes spell behind a beginning, the offset parts them not
abbrev pub EndsNowhere : Beginning → ℕ → List ℕ → Type 0
EndsNowhere b keep bytes = (all : List Recorded) → stored_from b.state b.place all → Spells b.place (bodies all) bytes → ¬ (IsEndIn b.place all keep)

-- whichever entries the bytes spell behind a beginning, they are these
abbrev pub AreAll : Beginning → List Recorded → List ℕ → Type 0
AreAll b es bytes = (all : List Recorded) → stored_from b.state b.place all → Spells b.place (bodies all) bytes → all ≡ es

-- why no entry is read behind those that were: damage only where the log has no more of them; but for the disk's refusal no call of the disk failed
abbrev pub LastCause : File → Lists → Marked → BookMap → ℕ → ℕ → Seen → Seen → DatabaseFault → Type 0
LastCause log catalog rows books base position before now Missing = ⊥
LastCause log catalog rows books base position before now Exists = ⊥
LastCause log catalog rows books base position before now (Damaged file at) =
    (file ≡ log) × (IsTrue before.observable → (b : Beginning) (es : List Recorded) → base ≡ b.place → IsReplayed catalog rows books position b es → HasRead base es position (bytes_of before.files log) → AreAll b es (bytes_of before.files log)) × (now.disk_faults ≡ before.disk_faults)
LastCause log catalog rows books base position before now Disk = Rose before.disk_faults now.disk_faults
LastCause log catalog rows books base position before now (Full end need) = ⊥
LastCause log catalog rows books base position before now (Long size limit) = ⊥
LastCause log catalog rows books base position before now Memory = now.disk_faults ≡ before.disk_faults

-- why the entries behind a beginning are not read up to an offset: damage only where it parts none that the log has; but for the disk's refusal no call of the
-- disk failed
abbrev pub StopCause : File → Beginning → ℕ → Seen → Seen → DatabaseFault → Type 0
StopCause log b keep before now Missing = ⊥
StopCause log b keep before now Exists = ⊥
StopCause log b keep before now (Damaged file at) = (file ≡ log) × (IsTrue before.observable → EndsNowhere b keep (bytes_of before.files log)) × (now.disk_faults ≡ before.disk_faults)
StopCause log b keep before now Disk = Rose before.disk_faults now.disk_faults
StopCause log b keep before now (Full end need) = ⊥
StopCause log b keep before now (Long size limit) = ⊥
StopCause log b keep before now Memory = now.disk_faults ≡ before.disk_faults
