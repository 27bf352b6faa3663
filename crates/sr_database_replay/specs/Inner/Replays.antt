-- A log that is read again from its base, entry by entry.
use Rattle.std.specs.Prelude.{◌≡◌, ◌≢◌, ℕ, ◌+◌, ◌≤◌, ◌<◌, ⊤, Bool, true, false, List, [], ◌∷◌, ◌++◌, length, take, drop, Option, Some, None, IsTrue}
use Rattle.sr_base.specs.Values.{farthest_offset}
use Rattle.sr_book.specs.Entries.{Name}
use Rattle.sr_book.specs.Histories.{book_from}
use Rattle.sr_database_files.specs.Books.{BookMap, book_in, listed}
use Rattle.sr_database_history.specs.Fitting.{Fits, stored_from}
use Rattle.sr_database_history.specs.Folds.{state_from, end_from, sees}
use Rattle.sr_database_history.specs.Recorded.{Recorded, entry_of}
use Rattle.sr_logfile.specs.Inner.Heads.{IsClosed}
use Rattle.sr_logfile.specs.Records.{header, record_of, open_records, Spells, place_in}
use Rattle.sr_logform.specs.Entries.{entry_spelling, IsEntry}
use Rattle.sr_logform.specs.declared.entry.Entry.{Entry}
use Rattle.sr_rows.specs.Marks.{Marked}
use Rattle.sr_rows.specs.Inner.Steps.{at_mark}
use Rattle.sr_catalog_schema.specs.Catalogs.{Lists}
use Rattle.sr_site.specs.Causes.{Rose}
use Rattle.sr_site.specs.Seen.{Seen}
use Rattle.sr_site.specs.Files.{bytes_of}
use Rattle.sr_site.specs.declared.file.File.{File}
use Rattle.sr_database_files.specs.Damage.{BeginsEntry}
use Rattle.sr_database_meaning.specs.Standing.{body, bodies}
use Rattle.sr_snapshot.specs.Beginnings.{Beginning, IsBeginning}
use Rattle.sr_database_files.specs.declared.fault.DatabaseFault.{DatabaseFault}
use Rattle.sr_database_files.specs.declared.fault.DatabaseFault.TheVariants.{Missing, Exists, Damaged, Disk, Full, Long, Memory}

-- what was read up to a position are these entries behind a beginning
pub record IsReplayed (catalog : Lists) (rows : Marked) (books : BookMap) (position : ℕ) (b : Beginning) (es : List Recorded) : Type 0 where
  pub begins : IsBeginning b
  pub stored : stored_from b.state b.place es
  pub catalog_is : catalog ≡ (state_from b.state es).catalog
  pub rows_are : rows ≡ at_mark (state_from b.state es).rows
  pub books_are : (user : Name) → book_in books user ≡ book_from sees user (listed b.books user) es
  pub position_is : position ≡ end_from b.place es

-- it is some beginning, with some entries behind it
pub record IsReplayedTo (catalog : Lists) (rows : Marked) (books : BookMap) (position : ℕ) : Type 0 where
  pub beginning : Beginning
  pub es : List Recorded
  pub is : IsReplayed catalog rows books position beginning es

-- the log spells the entries that were read behind a beginning
pub record HasReplayed (catalog : Lists) (rows : Marked) (books : BookMap) (position : ℕ) (b : Beginning) (log : File) (seen : Seen) : Type 0 where
  pub left : List Recorded
  pub is : IsReplayed catalog rows books position b left
  pub spells : IsTrue seen.observable → Spells b.place (bodies left) (bytes_of seen.files log)

-- the bytes begin with the record of an entry behind an open gate, and a gate
pub record BeginsWith (r : Recorded) (bytes : List ℕ) : Type 0 where
  pub gate : ℕ
  pub more : List ℕ
  pub is : bytes ≡ 1 ∷ (record_of (body r) ++ gate ∷ more)

-- a log's bytes begin with the header of a base and the records of these entries, up to a position, where a gate stands
pub record HasRead (base : ℕ) (es : List Recorded) (position : ℕ) (bytes : List ℕ) : Type 0 where
  pub prefix : bytes ≡ (header base ++ open_records (bodies es)) ++ drop (place_in base position) bytes
  pub some : 0 < length (drop (place_in base position) bytes)

-- behind a beginning these entries stand there, and what follows an open gate behind them is no record of one that may follow, at this place
pub record LacksNext (b : Beginning) (bytes : List ℕ) (place : ℕ) : Type 0 where
  pub es : List Recorded
  pub rest : List ℕ
  pub bytes_are : bytes ≡ (header b.place ++ open_records (bodies es)) ++ 1 ∷ rest
  pub place_is : place ≡ length (header b.place ++ open_records (bodies es))
  pub stored : stored_from b.state b.place es
  pub broken : (r : Recorded) → BeginsEntry (state_from b.state es) (end_from b.place es) r rest → ⊥

-- an entry more was read: it is that of this recorded one
pub record IsOneMore (new_catalog : Lists) (new_rows : Marked) (new_books : BookMap) (end : ℕ) (b : Beginning) (es : List Recorded) (entry : Entry) : Type 0 where
  pub r : Recorded
  pub entry_is : entry_of r ≡ entry
  pub fits : Fits (state_from b.state es) (end_from b.place es) r
  pub is : IsReplayed new_catalog new_rows new_books end b (es ++ r ∷ [])

-- no recorded entry that may stand there is meant by it
abbrev pub IsNone : Beginning → List Recorded → Entry → Type 0
IsNone b es entry = (r : Recorded) → entry_of r ≡ entry → ¬ (Fits (state_from b.state es) (end_from b.place es) r)

-- the entry may stand there, and was followed; or it may not
abbrev pub Followed : Lists → Marked → BookMap → ℕ → Beginning → List Recorded → Entry → Bool → Type 0
Followed new_catalog new_rows new_books end b es entry true = IsOneMore new_catalog new_rows new_books end b es entry
Followed new_catalog new_rows new_books end b es entry false = IsNone b es entry

-- what was read is some beginning, with some entries behind it
pub record IsReplayedSome (catalog : Lists) (rows : Marked) (books : BookMap) : Type 0 where
  pub position : ℕ
  pub beginning : Beginning
  pub es : List Recorded
  pub is : IsReplayed catalog rows books position beginning es

-- behind whatever was read an entry of so many bytes was followed, or may not stand there
abbrev pub FollowsAny : Lists → Lists → Marked → Marked → BookMap → BookMap → ℕ → Entry → Bool → Type 0
FollowsAny catalog new_catalog rows new_rows books new_books count entry may =
    (position : ℕ) (b : Beginning) (es : List Recorded) → IsReplayed catalog rows books position b es → position + (count + 5) ≤ farthest_offset
    → Followed new_catalog new_rows new_books (position + (count + 5)) b es entry may

-- one entry more was read behind others, up to an end, and its record stands in the log at the position
pub record HasReadOn (new_catalog : Lists) (new_rows : Marked) (new_books : BookMap) (base position end : ℕ) (b : Beginning) (es : List Recorded) (log : File) (seen : Seen) : Type 0 where
  pub r : Recorded
  pub is : IsReplayed new_catalog new_rows new_books end b (es ++ r ∷ [])
  pub begins : IsTrue seen.observable → BeginsWith r (drop (place_in base position) (bytes_of seen.files log))

-- it was, behind whatever was read up to there
abbrev pub IsReadOn : Lists → Lists → Marked → Marked → BookMap → BookMap → ℕ → ℕ → ℕ → File → Seen → Type 0
IsReadOn catalog new_catalog rows new_rows books new_books base position end log seen =
    (b : Beginning) (es : List Recorded) → IsReplayed catalog rows books position b es → HasReadOn new_catalog new_rows new_books base position end b es log seen

-- the gate there is closed, and what was read stands
pub record EndsThere (catalog new_catalog : Lists) (rows new_rows : Marked) (books new_books : BookMap) (base position : ℕ) (log : File) (seen : Seen) : Type 0 where
  pub catalog_is : new_catalog ≡ catalog
  pub rows_are : new_rows ≡ rows
  pub books_are : new_books ≡ books
  pub closed : IsTrue seen.observable → IsClosed (drop (place_in base position) (bytes_of seen.files log))

-- the one or the other
abbrev pub IsNextEntry : Lists → Lists → Marked → Marked → BookMap → BookMap → ℕ → ℕ → File → Seen → Option ℕ → Type 0
IsNextEntry catalog new_catalog rows new_rows books new_books base position log seen None = EndsThere catalog new_catalog rows new_rows books new_books base position log seen
IsNextEntry catalog new_catalog rows new_rows books new_books base position log seen (Some end) = IsReadOn catalog new_catalog rows new_rows books new_books base position end log seen

-- these bytes of a file are there
abbrev pub piece : ℕ → ℕ → List ℕ → List ℕ
piece place count bytes = take count (drop place bytes)

-- why the body of a record, which is there, is not read: damage at the gate where no entry spells it; but for the disk's refusal no call of
-- the disk failed
abbrev pub BodyCause : File → ℕ → ℕ → Seen → Seen → DatabaseFault → Type 0
BodyCause log place count before now Missing = ⊥
BodyCause log place count before now Exists = ⊥
BodyCause log place count before now (Damaged file at) =
    (file ≡ log) × (at ≡ place) × (IsTrue before.observable → place + 5 + count ≤ length (bytes_of before.files log) → (e : Entry) → IsEntry e → piece (place + 5) count (bytes_of before.files log) ≢ entry_spelling e) × (now.disk_faults ≡ before.disk_faults)
BodyCause log place count before now Disk = Rose before.disk_faults now.disk_faults
BodyCause log place count before now (Full end need) = ⊥
BodyCause log place count before now (Long size limit) = ⊥
BodyCause log place count before now Memory = now.disk_faults ≡ before.disk_faults

-- why bytes are no entry: damage at a gate where no entry is spelled so
abbrev pub SpellingCause : File → ℕ → List ℕ → DatabaseFault → Type 0
SpellingCause log place bytes Missing = ⊥
SpellingCause log place bytes Exists = ⊥
SpellingCause log place bytes (Damaged file at) = (file ≡ log) × (at ≡ place) × ((e : Entry) → IsEntry e → bytes ≢ entry_spelling e)
SpellingCause log place bytes Disk = ⊥
SpellingCause log place bytes (Full end need) = ⊥
SpellingCause log place bytes (Long size limit) = ⊥
SpellingCause log place bytes Memory = ⊤

-- why a record of the log is not read behind what was: damage at its gate where no entry stands there that may; but for the disk's refusal no
-- call of the disk failed
abbrev pub RecordCause : File → Lists → Marked → BookMap → ℕ → ℕ → Seen → Seen → DatabaseFault → Type 0
RecordCause log catalog rows books base position before now Missing = ⊥
RecordCause log catalog rows books base position before now Exists = ⊥
RecordCause log catalog rows books base position before now (Damaged file at) =
    (file ≡ log) × (IsTrue before.observable → (b : Beginning) (es : List Recorded) → base ≡ b.place → IsReplayed catalog rows books position b es → HasRead base es position (bytes_of before.files log) → LacksNext b (bytes_of before.files log) at) × (now.disk_faults ≡ before.disk_faults)
RecordCause log catalog rows books base position before now Disk = Rose before.disk_faults now.disk_faults
RecordCause log catalog rows books base position before now (Full end need) = ⊥
RecordCause log catalog rows books base position before now (Long size limit) = ⊥
RecordCause log catalog rows books base position before now Memory = now.disk_faults ≡ before.disk_faults

-- why the entries behind a beginning are not read: but for the disk's refusal no call of the disk failed
abbrev pub ReplayCause : File → Beginning → Seen → Seen → DatabaseFault → Type 0
ReplayCause log b before now Missing = ⊥
ReplayCause log b before now Exists = ⊥
ReplayCause log b before now (Damaged file at) = (file ≡ log) × (IsTrue before.observable → LacksNext b (bytes_of before.files log) at) × (now.disk_faults ≡ before.disk_faults)
ReplayCause log b before now Disk = Rose before.disk_faults now.disk_faults
ReplayCause log b before now (Full end need) = ⊥
ReplayCause log b before now (Long size limit) = ⊥
ReplayCause log b before now Memory = now.disk_faults ≡ before.disk_faults
