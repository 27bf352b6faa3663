-- The entry behind an offset.
use Rattle.std.specs.Prelude.{◌≡◌, ℕ, List, [], ◌∷◌, ◌++◌, Option, Some, None, IsTrue}
use Rattle.sr_base.specs.declared.offset.Offset.{Offset}
use Rattle.sr_database_history.specs.Fitting.{Stored}
use Rattle.sr_database_history.specs.Folds.{end_of}
use Rattle.sr_database_history.specs.Recorded.{Recorded, entry_of}
use Rattle.sr_logfile.specs.Log.{Log}
use Rattle.sr_logfile.specs.Inner.Logs.{IsAt}
use Rattle.sr_logform.specs.Entries.{entry_spelling}
use Rattle.sr_logform.specs.declared.entry.Entry.{Entry}
use Rattle.sr_book.specs.Entries.{Name}
use Rattle.sr_site.specs.Causes.{Rose}
use Rattle.sr_site.specs.Seen.{Seen}
use Rattle.sr_survey_brief.specs.Inner.Briefs.{IsBrief}
use Rattle.sr_database_meaning.specs.Standing.{bodies}
use Rattle.sr_database.specs.Databases.{IsDatabase}
use Rattle.sr_database.specs.Views.{View}
use Rattle.sr_database_files.specs.declared.fault.DatabaseFault.{DatabaseFault}
use Rattle.sr_database_files.specs.declared.fault.DatabaseFault.TheVariants.{Missing, Exists, Damaged, Disk, Full, Long, Memory}

-- the first of those that are left, with the end of its record
pub record IsNext (done left : List Recorded) (end : Offset) (entry : Entry) : Type 0 where
  pub r : Recorded
  pub rest : List Recorded
  pub left_is : left ≡ r ∷ rest
  pub entry_is : entry ≡ entry_of r
  pub end_is : end.0 ≡ end_of (done ++ r ∷ [])

-- none exactly where none is left
abbrev pub IsEntryAfter : List Recorded → List Recorded → Option (Offset × Entry) → Type 0
IsEntryAfter done left None = left ≡ []
IsEntryAfter done left (Some found) = IsNext done left found.0 found.1

-- the first of those that are left, in brief, with the end of its record
pub record IsNextBrief (done left : List Recorded) (end : Offset) (brief : Entry) : Type 0 where
  pub entry : Entry
  pub is : IsNext done left end entry
  pub brief_is : IsBrief entry brief

-- none exactly where none is left
abbrev pub IsBriefAfter : List Recorded → List Recorded → Option (Offset × Entry) → Type 0
IsBriefAfter done left None = left ≡ []
IsBriefAfter done left (Some found) = IsNextBrief done left found.0 found.1

-- the first of those that are left ends here
pub record IsNextEnd (done left : List Recorded) (end : Offset) : Type 0 where
  pub r : Recorded
  pub rest : List Recorded
  pub left_is : left ≡ r ∷ rest
  pub end_is : end.0 ≡ end_of (done ++ r ∷ [])

-- none exactly where none is left
abbrev pub IsEndAfter : List Recorded → List Recorded → Option Offset → Type 0
IsEndAfter done left None = left ≡ []
IsEndAfter done left (Some end) = IsNextEnd done left end

-- the first of those that are left ends here, and its bytes begin with this one, which tells its kind
pub record IsNextKind (done left : List Recorded) (end : Offset) (kind : ℕ) : Type 0 where
  pub r : Recorded
  pub rest : List Recorded
  pub left_is : left ≡ r ∷ rest
  pub end_is : end.0 ≡ end_of (done ++ r ∷ [])
  pub more : List ℕ
  pub kind_is : entry_spelling (entry_of r) ≡ kind ∷ more

-- none exactly where none is left
abbrev pub IsKindAfter : List Recorded → List Recorded → Option (Offset × ℕ) → Type 0
IsKindAfter done left None = left ≡ []
IsKindAfter done left (Some found) = IsNextKind done left found.0 found.1

-- bytes begin with this one
abbrev pub BeginWith : List ℕ → ℕ → Type 0
BeginWith bytes kind = (more : List ℕ) × (bytes ≡ kind ∷ more)

-- the offset is the beginning of the database's history, or the end of one of its entries
pub record IsEnd (view : View) (after : Offset) (seen : Seen) : Type 0 where
  pub publisher : Name
  pub done : List Recorded
  pub left : List Recorded
  pub is : IsDatabase view publisher (done ++ left) seen
  pub after_is : after.0 ≡ end_of done

-- the offset parts a history: those done before it, of which the log may hold the last, and those left behind it, which it holds
pub record Parts (log : Log) (after : ℕ) (publisher : Name) (done left : List Recorded) (seen : Seen) : Type 0 where
  pub stored : Stored publisher (done ++ left)
  pub front : List (List ℕ)
  pub at : IsAt log after front (bodies left) seen.files
  pub after_is : after ≡ end_of done

-- why the entry behind an offset of a log is not read: damage only where the disk does not tell what it holds, or the offset parts no history;
-- but for the disk's refusal no call of the disk failed
abbrev pub BehindCause : Log → ℕ → Seen → Seen → DatabaseFault → Type 0
BehindCause log after before now Missing = ⊥
BehindCause log after before now Exists = ⊥
BehindCause log after before now (Damaged file at) = (IsTrue before.observable → (publisher : Name) (done left : List Recorded) → Parts log after publisher done left before → ⊥) × (now.disk_faults ≡ before.disk_faults)
BehindCause log after before now Disk = Rose before.disk_faults now.disk_faults
BehindCause log after before now (Full end need) = ⊥
BehindCause log after before now (Long size limit) = ⊥
BehindCause log after before now Memory = now.disk_faults ≡ before.disk_faults
