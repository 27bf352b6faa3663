-- What the loop over a log's entries keeps.
use Rattle.std.proofs.Common.{◌≡◌, ℕ, ◌+◌, ◌≤◌, ◌<◌, ◌^◌, List, [], ◌∷◌, ◌++◌, length, drop, Option, Some, None, refl, sym, ◌∙◌, ap, subst, arith, le_refl}
use Rattle.std.specs.Prelude.{IsTrue, IfSome}
use Rattle.sr_database_files.specs.Books.{BookMap}
use Rattle.sr_database_history.specs.Folds.{end_from}
use Rattle.sr_database_history.specs.Recorded.{Recorded}
use Rattle.sr_logfile.specs.Inner.Heads.{IsClosed}
use Rattle.sr_logfile.specs.Inner.Log.{InOrder}
use Rattle.sr_logfile.specs.Records.{HasHeader, place_in}
use Rattle.sr_rows.specs.Marks.{Marked}
use Rattle.sr_catalog_schema.specs.Catalogs.{Lists}
use Rattle.sr_site.specs.Files.{Files, bytes_of}
use Rattle.sr_site.specs.declared.file.File.{File}
use Rattle.sr_site.specs.Seen.{Seen}
use Rattle.sr_snapshot.specs.Beginnings.{Beginning}
use Rattle.sr_database_files.specs.Inner.Openings.{ReadAlone}
use Rattle.sr_database_replay.specs.Inner.Replays.{IsReplayed, IsReplayedTo, HasReplayed, IsReadOn, EndsThere, IsNextEntry, BeginsWith, HasRead, LacksNext, RecordCause, ReplayCause}
use Rattle.sr_database_files.specs.declared.fault.DatabaseFault.{DatabaseFault}
use Rattle.sr_database_files.specs.declared.fault.DatabaseFault.TheVariants.{Missing, Exists, Damaged, Disk, Full, Long, Memory}
use Rattle.sr_database_replay.proofs.Records.{read_none, read_more, read_all}
use Rattle.sr_database_files.proofs.Quiet.{told_then, read_same, read_then}

-- entries that were read up to a position, behind this beginning
pub record IsReadUpTo (log : File) (b : Beginning) (catalog : Lists) (rows : Marked) (books : BookMap) (position : ℕ) (first : Seen) : Type 0 where
  pub es : List Recorded
  pub is : IsReplayed catalog rows books position b es
  pub read : IsTrue first.observable → HasRead b.place es position (bytes_of first.files log)

-- the loop goes on from what came before: entries were read behind whatever beginning that is
pub record IsReading (log : File) (old_catalog catalog : Lists) (old_rows rows : Marked) (old_books books : BookMap) (base position size : ℕ) (first now : Seen) : Type 0 where
  pub order : InOrder base position
  pub alone : ReadAlone first now
  pub steady : now.disk_faults ≡ first.disk_faults
  pub size_is : IsTrue first.observable → size ≡ length (bytes_of first.files log)
  pub some : IsReplayedTo catalog rows books position
  pub entries : (b : Beginning) → IsReplayed old_catalog old_rows old_books base b [] → IsReadUpTo log b catalog rows books position first

pub begins_reading : (log : File) (catalog : Lists) (rows : Marked) (books : BookMap) (base size : ℕ) (first : Seen) → base ≤ 2 ^ 62 → IsReplayedTo catalog rows books base → (IsTrue first.observable → HasHeader base (bytes_of first.files log))
    → (IsTrue first.observable → size ≡ length (bytes_of first.files log)) → IsReading log catalog catalog rows rows books books base base size first first
begins_reading log catalog rows books base size first limit some header size_is =
    record {
      order = record { order = le_refl base; limit = limit };
      alone = read_same first;
      steady = refl;
      size_is = size_is;
      some = some;
      entries = λ b is. record {
        es = [];
        is = is;
        read = λ told. subst (λ (n : ℕ). HasRead n [] base (bytes_of first.files log)) is.position_is (read_none base (bytes_of first.files log) (header told));
      };
    }

pub size_now : (log : File) (size : ℕ) (first now : Seen) → ReadAlone first now → (IsTrue first.observable → size ≡ length (bytes_of first.files log)) → IsTrue now.observable → size ≡ length (bytes_of now.files log)
size_now log size first now alone size_is told =
    let at : IsTrue first.observable = subst IsTrue alone.stays.observable told in
    size_is at ∙ ap (λ (f : Files). length (bytes_of f log)) (sym (alone.files at))

-- the base is that of the beginning
based_on : (base position : ℕ) (b : Beginning) (es : List Recorded) (bytes : List ℕ) → base ≡ b.place → HasRead b.place es position bytes → HasRead base es position bytes
based_on base position b es bytes is read = subst (λ (n : ℕ). HasRead n es position bytes) (sym is) read

module _ (log : File) (catalog new_catalog : Lists) (rows new_rows : Marked) (books new_books : BookMap) (base position : ℕ) (first now : Seen) (b : Beginning) (base_is : base ≡ b.place)
    (entries : IsReadUpTo log b catalog rows books position first) (alone : ReadAlone first now) where
  pub reads_on : (end : ℕ) → IsReadOn catalog new_catalog rows new_rows books new_books base position end log now → IsReadUpTo log b new_catalog new_rows new_books end first
  reads_on end step =
      let more = step b entries.es entries.is in
      record {
        es = entries.es ++ more.r ∷ [];
        is = more.is;
        read = λ told. subst (λ (n : ℕ). HasRead n (entries.es ++ more.r ∷ []) end (bytes_of first.files log)) base_is
            (read_more entries.es more.r base position end (bytes_of first.files log) (subst (λ (n : ℕ). end ≡ end_from n (entries.es ++ more.r ∷ [])) (sym base_is) more.is.position_is)
            (based_on base position b entries.es (bytes_of first.files log) base_is (entries.read told))
            (subst (λ (f : Files). BeginsWith more.r (drop (place_in base position) (bytes_of f log))) (alone.files told) (more.begins (told_then first now alone.stays told))));
      }

  pub reads_end : EndsThere catalog new_catalog rows new_rows books new_books base position log now → HasReplayed new_catalog new_rows new_books position b log first
  reads_end ends =
      record {
        left = entries.es;
        is = subst (λ (x : Lists). IsReplayed x new_rows new_books position b entries.es) (sym ends.catalog_is)
            (subst (λ (x : Marked). IsReplayed catalog x new_books position b entries.es) (sym ends.rows_are)
            (subst (λ (x : BookMap). IsReplayed catalog rows x position b entries.es) (sym ends.books_are) entries.is));
        spells = λ told. read_all b entries.es position (bytes_of first.files log) entries.is.begins.place entries.is.stored (entries.read told)
            (subst (λ (n : ℕ). IsClosed (drop (place_in n position) (bytes_of first.files log))) base_is
            (subst (λ (f : Files). IsClosed (drop (place_in base position) (bytes_of f log))) (alone.files told) (ends.closed (told_then first now alone.stays told))));
      }

module _ (log : File) (old_catalog catalog new_catalog : Lists) (old_rows rows new_rows : Marked) (old_books books new_books : BookMap) (base position size : ℕ) (first before : Seen)
    (reading : IsReading log old_catalog catalog old_rows rows old_books books base position size first before) where
  -- one turn of the loop
  pub reading_on : (now : Seen) (found : Option ℕ) (end : ℕ) → found ≡ Some end → IsNextEntry catalog new_catalog rows new_rows books new_books base position log before found
      → IfSome found (λ end. (position < end) × (end ≤ 2 ^ 62)) → ReadAlone before now → now.disk_faults ≡ before.disk_faults → IsReading log old_catalog new_catalog old_rows new_rows old_books new_books base end size first now
  reading_on now found end is entry onward alone steady =
      let further = subst (λ (o : Option ℕ). IfSome o (λ end. (position < end) × (end ≤ 2 ^ 62))) is onward in
      let step : IsReadOn catalog new_catalog rows new_rows books new_books base position end log before = subst (λ (o : Option ℕ). IsNextEntry catalog new_catalog rows new_rows books new_books base position log before o) is entry in
      let more = step reading.some.beginning reading.some.es reading.some.is in
      record {
        order = record { order = omega (arith, reading.order.order, further.0); limit = further.1 };
        alone = read_then first before now reading.alone alone;
        steady = steady ∙ reading.steady;
        size_is = reading.size_is;
        some = record { beginning = reading.some.beginning; es = reading.some.es ++ more.r ∷ []; is = more.is };
        entries = λ b beginning.
            reads_on log catalog new_catalog rows new_rows books new_books base position first before b beginning.position_is (reading.entries b beginning) reading.alone end step;
      }

  -- its end
  pub reading_end : (found : Option ℕ) → ((end : ℕ) → found ≡ Some end → ⊥) → IsNextEntry catalog new_catalog rows new_rows books new_books base position log before found
      → (b : Beginning) → IsReplayed old_catalog old_rows old_books base b [] → HasReplayed new_catalog new_rows new_books position b log first
  reading_end None none entry b beginning =
      reads_end log catalog new_catalog rows new_rows books new_books base position first before b beginning.position_is (reading.entries b beginning) reading.alone entry
  reading_end (Some end) none entry b beginning = absurd (none end refl)

-- a record's refusal is that of the reading
module _ (log : File) (old_catalog catalog : Lists) (old_rows rows : Marked) (old_books books : BookMap) (base position size : ℕ) (first before now : Seen) (reading : IsReading log old_catalog catalog old_rows rows old_books books base position size first before)
    (b : Beginning) (beginning : IsReplayed old_catalog old_rows old_books base b []) where
  pub reading_cause : (fault : DatabaseFault) → RecordCause log catalog rows books base position before now fault → ReplayCause log b first now fault
  reading_cause Missing cause = absurd cause
  reading_cause Exists cause = absurd cause
  reading_cause (Damaged file place) cause = (
    cause.0,
    λ told.
        let entries = reading.entries b beginning in
        let there : HasRead base entries.es position (bytes_of first.files log) = based_on base position b entries.es (bytes_of first.files log) beginning.position_is (entries.read told) in
        subst (λ (f : Files). LacksNext b (bytes_of f log) place) (reading.alone.files told)
        (cause.1 (told_then first before reading.alone.stays told) b entries.es beginning.position_is entries.is (subst (λ (f : Files). HasRead base entries.es position (bytes_of f log)) (sym (reading.alone.files told)) there)),
    cause.2 ∙ reading.steady,
  )
  reading_cause Disk cause =
      let later : first.disk_faults ≤ before.disk_faults = reading.alone.stays.later in
      omega arith
  reading_cause (Full end need) cause = absurd cause
  reading_cause (Long size limit) cause = absurd cause
  reading_cause Memory cause = cause ∙ reading.steady

-- the refusal of the reading, from a moment before
pub replay_cause_before : (log : File) (b : Beginning) (before middle now : Seen) → ReadAlone before middle → middle.disk_faults ≡ before.disk_faults → (fault : DatabaseFault) → ReplayCause log b middle now fault → ReplayCause log b before now fault
replay_cause_before log b before middle now alone steady Missing cause = absurd cause
replay_cause_before log b before middle now alone steady Exists cause = absurd cause
replay_cause_before log b before middle now alone steady (Damaged file place) cause = (
  cause.0,
  λ told. subst (λ (f : Files). LacksNext b (bytes_of f log) place) (alone.files told) (cause.1 (told_then before middle alone.stays told)),
  cause.2 ∙ steady,
)
replay_cause_before log b before middle now alone steady Disk cause =
    let later : before.disk_faults ≤ middle.disk_faults = alone.stays.later in
    omega arith
replay_cause_before log b before middle now alone steady (Full end need) cause = absurd cause
replay_cause_before log b before middle now alone steady (Long size limit) cause = absurd cause
replay_cause_before log b before middle now alone steady Memory cause = cause ∙ steady
