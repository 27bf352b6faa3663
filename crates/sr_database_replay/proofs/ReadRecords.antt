-- A record that is read: its bytes, its entry, and why it is refused.
use Rattle.std.proofs.Common.{◌≡◌, ℕ, ◌+◌, ◌≤◌, ◌<◌, ◌^◌, Bool, true, false, List, [], ◌∷◌, ◌++◌, length, take, drop, Result, Ok, Err, refl, sym, ◌∙◌, ap, subst, arith}
use Rattle.std.specs.Prelude.{IsTrue, IfOk, IfErr}
use Rattle.std.proofs.lemmas.List.{take_all}
use Rattle.sr_database_files.specs.Books.{BookMap}
use Rattle.sr_database_fold.specs.Inner.Answers.{TellsOne}
use Rattle.sr_database_fold.specs.Inner.Readings.{state_in, FitsAs}
use Rattle.sr_database_history.specs.Folds.{State, next}
use Rattle.sr_database_history.specs.Recorded.{Recorded, entry_of}
use Rattle.sr_logfile.specs.Inner.Heads.{IsClosed, HasWhole}
use Rattle.sr_logfile.specs.Inner.Heads.{RecordCause as GateCause}
use Rattle.sr_logfile.specs.Records.{place_in}
use Rattle.sr_logfile.specs.declared.fault.LogFault.{LogFault}
use Rattle.sr_logfile.specs.declared.fault.LogFault.TheVariants as logs
use Rattle.sr_logform.specs.Entries.{entry_spelling, IsEntry}
use Rattle.sr_logform.specs.Limits.{longest_body}
use Rattle.sr_logform.specs.declared.entry.Entry.{Entry}
use Rattle.sr_rows.specs.Marks.{Marked}
use Rattle.sr_rows.specs.Inner.Steps.{at_mark}
use Rattle.sr_catalog_schema.specs.Catalogs.{Lists}
use Rattle.sr_site.specs.Files.{Files, bytes_of}
use Rattle.sr_site.specs.Reads.{HasRead as GaveBytes}
use Rattle.sr_site.specs.Seen.{Seen}
use Rattle.sr_site.specs.declared.file.File.{File}
use Rattle.sr_snapshot.specs.Beginnings.{Beginning}
use Rattle.sr_database_files.specs.Inner.Openings.{ReadAlone, IsLogFault}
use Rattle.sr_database_replay.specs.Inner.Replays.{IsReplayed, BeginsWith, HasRead, LacksNext, IsNone, Followed, FollowsAny, IsReadOn, EndsThere, piece, SpellingCause, BodyCause, RecordCause}
use Rattle.sr_database_replay.specs.Inner.Books.{BooksFollow}
use Rattle.sr_database_files.specs.declared.fault.DatabaseFault.{DatabaseFault}
use Rattle.sr_database_files.specs.declared.fault.DatabaseFault.TheVariants.{Missing, Exists, Damaged, Disk, Full, Long, Memory}
use Rattle.sr_database_replay.proofs.Followed.{too_long, unfit, one_more_read, begins_there, body_there, unspelled, unfitting}
use Rattle.sr_database_replay.proofs.Records.{broken_record}
use Rattle.sr_database_files.proofs.Quiet.{told_then}

-- ---- an entry that is followed, or not

none_told : {Meaning : Type 0} (Fits : Meaning → Type 0) (leaves : Meaning → State) (after : State) (may : Bool) → may ≡ false → TellsOne Fits leaves after may → (meant : Meaning) → ¬ (Fits meant)
none_told Fits leaves after false is tells = tells
none_told Fits leaves after true is tells = absurd cc

one_told : {Meaning : Type 0} (Fits : Meaning → Type 0) (leaves : Meaning → State) (after : State) (may : Bool) → may ≡ true → TellsOne Fits leaves after may → (meant : Meaning) × Fits meant × (after ≡ leaves meant)
one_told Fits leaves after true is tells = tells
one_told Fits leaves after false is tells = absurd cc

module _ (catalog new_catalog : Lists) (rows new_rows : Marked) (books new_books : BookMap) (count : ℕ) (entry : Entry) (sized : length (entry_spelling entry) ≡ count) where
  pub follows_none_long : longest_body entry < count → FollowsAny catalog new_catalog rows new_rows books new_books count entry false
  follows_none_long long position b es is room = too_long catalog rows books position b es is entry count sized long

  pub follows_none : (after : State) (may : Bool) → may ≡ false → TellsOne (FitsAs (state_in catalog rows) entry) (next (state_in catalog rows)) after may → FollowsAny catalog new_catalog rows new_rows books new_books count entry false
  follows_none after may is tells position b es replayed room =
      unfit catalog rows books position b es replayed entry (none_told (FitsAs (state_in catalog rows) entry) (next (state_in catalog rows)) after may is tells)

  pub follows_one : (may : Bool) → may ≡ true → TellsOne (FitsAs (state_in catalog rows) entry) (next (state_in catalog rows)) (state_in new_catalog new_rows) may → IsEntry entry → count ≤ longest_body entry → new_rows ≡ at_mark new_rows.rows
      → ((r : Recorded) → entry_of r ≡ entry → BooksFollow books new_books r) → FollowsAny catalog new_catalog rows new_rows books new_books count entry true
  follows_one may is tells spelled short fresh follow position b es replayed room =
      let one = one_told (FitsAs (state_in catalog rows) entry) (next (state_in catalog rows)) (state_in new_catalog new_rows) may is tells in
      one_more_read catalog rows books position b es replayed entry count new_catalog new_rows new_books one.0 spelled sized short room one.1 one.2 fresh (follow one.0 one.1.is)

-- ---- the bytes of a body

pub read_short : (bytes prefix : List ℕ) (at wanted count read : ℕ) → GaveBytes bytes at wanted read prefix → wanted ≡ count → read < count → at + count ≤ length bytes → ⊥
read_short bytes prefix at wanted count read gave is less there = let all = gave.count_is in omega arith

pub read_whole : (bytes prefix : List ℕ) (at wanted count read : ℕ) → GaveBytes bytes at wanted read prefix → wanted ≡ count → count ≤ read → length prefix ≡ count → prefix ≡ piece at count bytes
read_whole bytes prefix at wanted count read gave is most long =
    let all = gave.count_is in
    let same : read ≡ count = omega arith in
    sym (take_all count prefix (omega arith)) ∙ subst (λ (n : ℕ). take n prefix ≡ take count (drop at bytes)) same (subst (λ (n : ℕ). take read prefix ≡ take n (drop at bytes)) is gave.prefix)

-- a short body is no whole one
pub short_cause : (log : File) (place count : ℕ) (before now : Seen) → (IsTrue before.observable → place + 5 + count ≤ length (bytes_of before.files log) → ⊥) → now.disk_faults ≡ before.disk_faults → BodyCause log place count before now (Damaged log place)
short_cause log place count before now none steady = (refl, refl, λ told there e spelled same. none told there, steady)

module _ (log : File) (place count : ℕ) (before now : Seen) (body : List ℕ) (is : IsTrue before.observable → body ≡ piece (place + 5) count (bytes_of before.files log)) where
  spelling_cause : now.disk_faults ≡ before.disk_faults → (fault : DatabaseFault) → SpellingCause log place body fault → BodyCause log place count before now fault
  spelling_cause steady Missing cause = absurd cause
  spelling_cause steady Exists cause = absurd cause
  spelling_cause steady (Damaged file at) cause = (cause.0, cause.1, λ told there e spelled same. cause.2 e spelled (is told ∙ same), steady)
  spelling_cause steady Disk cause = absurd cause
  spelling_cause steady (Full end need) cause = absurd cause
  spelling_cause steady (Long size limit) cause = absurd cause
  spelling_cause steady Memory cause = steady

  pub body_refused : now.disk_faults ≡ before.disk_faults → (result : Result Entry DatabaseFault) → IfErr result (SpellingCause log place body) → IfErr result (BodyCause log place count before now)
  body_refused steady (Ok entry) cause = tt
  body_refused steady (Err fault) cause = spelling_cause steady fault cause

  pub body_read : (result : Result Entry DatabaseFault) → IsTrue before.observable → IfOk result (λ entry. IsEntry entry × (body ≡ entry_spelling entry)) → IfOk result (λ entry. piece (place + 5) count (bytes_of before.files log) ≡ entry_spelling entry)
  body_read (Ok entry) told has = sym (is told) ∙ has.1
  body_read (Err fault) told has = tt

pub entry_read : (body : List ℕ) (result : Result Entry DatabaseFault) → IfOk result (λ entry. IsEntry entry × (body ≡ entry_spelling entry)) → IfOk result IsEntry
entry_read body (Ok entry) has = has.0
entry_read body (Err fault) has = tt

pub size_read : (body : List ℕ) (count : ℕ) (result : Result Entry DatabaseFault) → length body ≡ count → IfOk result (λ entry. IsEntry entry × (body ≡ entry_spelling entry)) → IfOk result (λ entry. length (entry_spelling entry) ≡ count)
size_read body count (Ok entry) long has = ap (λ (l : List ℕ). length l) (sym has.1) ∙ long
size_read body count (Err fault) long has = tt

-- ---- a whole record

module _ (log : File) (catalog : Lists) (rows : Marked) (books : BookMap) (base position end : ℕ) (before now : Seen) (whole : IsTrue before.observable → HasWhole position (drop (place_in base position) (bytes_of before.files log)) end) where
  -- the gates are far enough apart
  pub apart_cause : (place : ℕ) → end < position + 5 → now.disk_faults ≡ before.disk_faults → RecordCause log catalog rows books base position before now (Damaged log place)
  apart_cause place near steady = (refl, λ told b es at is read. let far = (whole told).end_is in absurd (omega arith), steady)

  module _ (count : ℕ) (apart : position + (count + 5) ≡ end) where
    sized : (told : IsTrue before.observable) → count ≡ length (whole told).body
    sized told = let far = (whole told).end_is in omega arith

    pub body_cause : (fault : DatabaseFault) → BodyCause log (place_in base position) count before now fault → RecordCause log catalog rows books base position before now fault
    body_cause Missing cause = absurd cause
    body_cause Exists cause = absurd cause
    body_cause (Damaged file at) cause = (
      cause.0,
      λ told b es first is read.
          unspelled base position (bytes_of before.files log) end (whole told) b es count (sized told) at is.stored first is.position_is cause.1 read
          (cause.2 told (body_there base position (bytes_of before.files log) end (whole told) count (sized told))),
      cause.3,
    )
    body_cause Disk cause = cause
    body_cause (Full end need) cause = absurd cause
    body_cause (Long size limit) cause = absurd cause
    body_cause Memory cause = cause

    module _ (new_catalog : Lists) (new_rows : Marked) (new_books : BookMap) (entry : Entry) (body : IsTrue before.observable → piece (place_in base position + 5) count (bytes_of before.files log) ≡ entry_spelling entry) (limit : end ≤ 2 ^ 62) where
      room : position + (count + 5) ≤ 2 ^ 62
      room = omega arith

      none_of : (may : Bool) (b : Beginning) (es : List Recorded) → may ≡ false → Followed new_catalog new_rows new_books (position + (count + 5)) b es entry may → IsNone b es entry
      none_of false b es is follows = follows
      none_of true b es is follows = absurd cc

      pub unfit_cause : now.disk_faults ≡ before.disk_faults → IsEntry entry → (may : Bool) → may ≡ false → FollowsAny catalog new_catalog rows new_rows books new_books count entry may → RecordCause log catalog rows books base position before now (Damaged log (place_in base position))
      unfit_cause steady spelled may is follows = (
        refl,
        λ told b es first replayed read.
            unfitting base position (bytes_of before.files log) end (whole told) b es count (sized told) (place_in base position) replayed.stored first replayed.position_is refl read entry spelled (body told)
            (none_of may b es is (follows position b es replayed room)),
        steady,
      )

      pub record_on : (may : Bool) → may ≡ true → FollowsAny catalog new_catalog rows new_rows books new_books count entry may → IsReadOn catalog new_catalog rows new_rows books new_books base position end log before
      record_on false is follows b es replayed = absurd cc
      record_on true is follows b es replayed =
          let more = follows position b es replayed room in
          record {
            r = more.r;
            is = subst (λ (n : ℕ). IsReplayed new_catalog new_rows new_books n b (es ++ more.r ∷ [])) apart more.is;
            begins = λ told. begins_there base position (bytes_of before.files log) end (whole told) more.r entry count (sized told) more.entry_is (body told);
          }

-- ---- the gate at a position

module _ (log : File) (catalog : Lists) (rows : Marked) (books : BookMap) (base position : ℕ) (before now : Seen) where
  pub closed_there : (new_catalog : Lists) (new_rows : Marked) (new_books : BookMap) → new_catalog ≡ catalog → new_rows ≡ rows → new_books ≡ books → (IsTrue before.observable → IsClosed (drop (place_in base position) (bytes_of before.files log)))
      → EndsThere catalog new_catalog rows new_rows books new_books base position log before
  closed_there new_catalog new_rows new_books c r b closed =
      record { catalog_is = c; rows_are = r; books_are = b; closed = closed }

  pub gate_cause : (fault : LogFault) (answer : DatabaseFault) → IsLogFault log fault answer → GateCause log (place_in base position) position before now fault → RecordCause log catalog rows books base position before now answer
  gate_cause logs.Disk answer is cause = subst (λ (a : DatabaseFault). RecordCause log catalog rows books base position before now a) (sym is) cause
  gate_cause (logs.Full end need) answer is cause = absurd cause
  gate_cause (logs.Damaged at) answer is cause = subst (λ (a : DatabaseFault). RecordCause log catalog rows books base position before now a) (sym is) (
    refl,
    λ told b es first replayed read.
        broken_record b es base position at (bytes_of before.files log) replayed.stored first replayed.position_is cause.0 read (cause.1 told),
    cause.2,
  )

  pub whole_at : (end : ℕ) → ReadAlone before now → (IsTrue before.observable → HasWhole position (drop (place_in base position) (bytes_of before.files log)) end) → IsTrue now.observable → HasWhole position (drop (place_in base position) (bytes_of now.files log)) end
  whole_at end alone whole told =
      let at : IsTrue before.observable = subst IsTrue alone.stays.observable told in
      subst (λ (f : Files). HasWhole position (drop (place_in base position) (bytes_of f log)) end) (sym (alone.files at)) (whole at)

  pub read_on_before : (new_catalog : Lists) (new_rows : Marked) (new_books : BookMap) (end : ℕ) → ReadAlone before now → IsReadOn catalog new_catalog rows new_rows books new_books base position end log now → IsReadOn catalog new_catalog rows new_rows books new_books base position end log before
  read_on_before new_catalog new_rows new_books end alone step b es replayed =
      let more = step b es replayed in
      record { r = more.r; is = more.is; begins = λ told. subst (λ (f : Files). BeginsWith more.r (drop (place_in base position) (bytes_of f log))) (alone.files told) (more.begins (told_then before now alone.stays told)) }

  pub record_cause_before : (last : Seen) → ReadAlone before now → now.disk_faults ≡ before.disk_faults → (fault : DatabaseFault) → RecordCause log catalog rows books base position now last fault → RecordCause log catalog rows books base position before last fault
  record_cause_before last alone steady Missing cause = absurd cause
  record_cause_before last alone steady Exists cause = absurd cause
  record_cause_before last alone steady (Damaged file at) cause = (
    cause.0,
    λ told b es first replayed read.
        subst (λ (f : Files). LacksNext b (bytes_of f log) at) (alone.files told)
        (cause.1 (told_then before now alone.stays told) b es first replayed (subst (λ (f : Files). HasRead base es position (bytes_of f log)) (sym (alone.files told)) read)),
    cause.2 ∙ steady,
  )
  record_cause_before last alone steady Disk cause = let later : before.disk_faults ≤ now.disk_faults = alone.stays.later in omega arith
  record_cause_before last alone steady (Full end need) cause = absurd cause
  record_cause_before last alone steady (Long size limit) cause = absurd cause
  record_cause_before last alone steady Memory cause = cause ∙ steady
