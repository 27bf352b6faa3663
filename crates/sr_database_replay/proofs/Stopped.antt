-- What the loop over a log's entries up to an offset keeps.
use Rattle.std.proofs.Common.{◌≡◌, inl, inr, ℕ, ◌≤◌, ◌<◌, ◌^◌, List, [], ◌∷◌, ◌++◌, length, drop, Result, Ok, Err, refl, sym, ◌∙◌, subst, arith, le_refl}
use Rattle.std.specs.Prelude.{IsTrue, IfErr}
use Rattle.sr_catalog_schema.specs.Catalogs.{Lists}
use Rattle.sr_database_files.proofs.Quiet.{told_then, read_same, read_then}
use Rattle.sr_database_files.specs.Books.{BookMap}
use Rattle.sr_database_files.specs.Inner.Openings.{ReadAlone}
use Rattle.sr_database_files.specs.declared.fault.DatabaseFault.{DatabaseFault}
use Rattle.sr_database_files.specs.declared.fault.DatabaseFault.TheVariants.{Missing, Exists, Damaged, Disk, Full, Long, Memory}
use Rattle.sr_database_history.specs.Folds.{end_from}
use Rattle.sr_database_history.specs.Recorded.{Recorded}
use Rattle.sr_logfile.specs.Inner.Heads.{IsClosed}
use Rattle.sr_logfile.specs.Inner.Log.{InOrder}
use Rattle.sr_logfile.specs.Records.{HasHeader, place_in}
use Rattle.sr_rows.specs.Marks.{Marked}
use Rattle.sr_site.specs.Files.{Files, bytes_of}
use Rattle.sr_site.specs.Seen.{Seen}
use Rattle.sr_site.specs.declared.file.File.{File}
use Rattle.sr_snapshot.specs.Beginnings.{Beginning}
use Rattle.sr_database_replay.proofs.Fronts.{IsNear, all_before, all_closed, never_lacks, passed_nowhere}
use Rattle.sr_database_replay.proofs.Records.{read_more, read_none}
use Rattle.sr_database_replay.specs.Inner.Replays.{IsReplayed, IsReplayedTo, IsReadOn, EndsThere, BeginsWith, HasRead, RecordCause}
use Rattle.sr_database_replay.specs.Inner.Stops.{AreAll, HasStopped, LastCause, StopCause}

-- ---- one entry more

module _ (log : File) (catalog : Lists) (rows : Marked) (books : BookMap) (base position : ℕ) (before now : Seen) where
  -- the gate there is closed
  pub ends_cause : (new_catalog : Lists) (new_rows : Marked) (new_books : BookMap) (place : ℕ) → EndsThere catalog new_catalog rows new_rows books new_books base position log before → now.disk_faults ≡ before.disk_faults
      → LastCause log catalog rows books base position before now (Damaged log place)
  ends_cause new_catalog new_rows new_books place ends steady = (
    refl,
    λ told b es first is read all stored spells.
        let bytes = bytes_of before.files log in
        let there : HasRead b.place es position bytes = subst (λ (n : ℕ). HasRead n es position bytes) first read in
        let closed : IsClosed (drop (place_in b.place position) bytes) = subst (λ (n : ℕ). IsClosed (drop (place_in n position) bytes)) first (ends.closed told) in
        all_closed b es position bytes is.begins.place is.stored there closed all stored spells,
    steady,
  )

  -- the record there is refused
  pub last_cause : (fault : DatabaseFault) → RecordCause log catalog rows books base position before now fault → LastCause log catalog rows books base position before now fault
  last_cause Missing cause = absurd cause
  last_cause Exists cause = absurd cause
  last_cause (Damaged file at) cause = (
    cause.0,
    λ told b es first is read all stored spells. absurd (never_lacks b (bytes_of before.files log) all stored spells at (cause.1 told b es first is read)),
    cause.2,
  )
  last_cause Disk cause = cause
  last_cause (Full end need) cause = absurd cause
  last_cause (Long size limit) cause = absurd cause
  last_cause Memory cause = cause

-- ---- the loop

-- entries that were read up to a position, behind this beginning; all but the last end before the offset
pub record IsReadNear (log : File) (b : Beginning) (catalog : Lists) (rows : Marked) (books : BookMap) (position keep : ℕ) (first : Seen) : Type 0 where
  pub es : List Recorded
  pub is : IsReplayed catalog rows books position b es
  pub read : IsTrue first.observable → HasRead b.place es position (bytes_of first.files log)
  pub near : IsNear b.place es keep

-- the loop goes on from what came before: entries were read behind whatever beginning that is
pub record IsStopping (log : File) (old_catalog catalog : Lists) (old_rows rows : Marked) (old_books books : BookMap) (base position keep size : ℕ) (first now : Seen) : Type 0 where
  pub order : InOrder base position
  pub from : base ≤ keep
  pub alone : ReadAlone first now
  pub steady : now.disk_faults ≡ first.disk_faults
  pub size_is : IsTrue first.observable → size ≡ length (bytes_of first.files log)
  pub some : IsReplayedTo catalog rows books position
  pub entries : (b : Beginning) → IsReplayed old_catalog old_rows old_books base b [] → IsReadNear log b catalog rows books position keep first

pub begins_stopping : (log : File) (catalog : Lists) (rows : Marked) (books : BookMap) (base keep size : ℕ) (first : Seen) → InOrder base keep → IsReplayedTo catalog rows books base → (IsTrue first.observable → HasHeader base (bytes_of first.files log))
    → (IsTrue first.observable → size ≡ length (bytes_of first.files log)) → IsStopping log catalog catalog rows rows books books base base keep size first first
begins_stopping log catalog rows books base keep size first order some header size_is =
    record {
      order = record { order = le_refl base; limit = omega (arith, order.order, order.limit) };
      from = order.order;
      alone = read_same first;
      steady = refl;
      size_is = size_is;
      some = some;
      entries = λ b is. record {
        es = [];
        is = is;
        read = λ told. subst (λ (n : ℕ). HasRead n [] base (bytes_of first.files log)) is.position_is (read_none base (bytes_of first.files log) (header told));
        near = inl refl;
      };
    }

module _ (log : File) (catalog new_catalog : Lists) (rows new_rows : Marked) (books new_books : BookMap) (base position keep : ℕ) (first now : Seen) (b : Beginning) (base_is : base ≡ b.place)
    (entries : IsReadNear log b catalog rows books position keep first) (alone : ReadAlone first now) where
  near_on : (end : ℕ) → position < keep → IsReadOn catalog new_catalog rows new_rows books new_books base position end log now → IsReadNear log b new_catalog new_rows new_books end keep first
  near_on end below step =
      let more = step b entries.es entries.is in
      record {
        es = entries.es ++ more.r ∷ [];
        is = more.is;
        read = λ told.
            let bytes = bytes_of first.files log in
            let there : HasRead base entries.es position bytes = subst (λ (n : ℕ). HasRead n entries.es position bytes) (sym base_is) (entries.read told) in
            subst (λ (n : ℕ). HasRead n (entries.es ++ more.r ∷ []) end bytes) base_is
            (read_more entries.es more.r base position end bytes (subst (λ (n : ℕ). end ≡ end_from n (entries.es ++ more.r ∷ [])) (sym base_is) more.is.position_is) there
            (subst (λ (f : Files). BeginsWith more.r (drop (place_in base position) (bytes_of f log))) (alone.files told) (more.begins (told_then first now alone.stays told))));
        near = inr (record { front = entries.es; r = more.r; is = refl; short = omega (arith, below, entries.is.position_is) });
      }

module _ (log : File) (old_catalog catalog : Lists) (old_rows rows : Marked) (old_books books : BookMap) (base position keep size : ℕ) (first before : Seen)
    (stopping : IsStopping log old_catalog catalog old_rows rows old_books books base position keep size first before) where
  -- one turn of the loop
  pub stopping_on : (new_catalog : Lists) (new_rows : Marked) (new_books : BookMap) (now : Seen) (end : ℕ) → position < keep → IsReadOn catalog new_catalog rows new_rows books new_books base position end log before → (position < end) × (end ≤ 2 ^ 62)
      → ReadAlone before now → now.disk_faults ≡ before.disk_faults → IsStopping log old_catalog new_catalog old_rows new_rows old_books new_books base end keep size first now
  stopping_on new_catalog new_rows new_books now end below step onward alone steady =
      let more = step stopping.some.beginning stopping.some.es stopping.some.is in
      record {
        order = record { order = omega (arith, stopping.order.order, onward.0); limit = onward.1 };
        from = stopping.from;
        alone = read_then first before now stopping.alone alone;
        steady = steady ∙ stopping.steady;
        size_is = stopping.size_is;
        some = record { beginning = stopping.some.beginning; es = stopping.some.es ++ more.r ∷ []; is = more.is };
        entries = λ b beginning.
            near_on log catalog new_catalog rows new_rows books new_books base position keep first before b beginning.position_is (stopping.entries b beginning) stopping.alone end below step;
      }

  module _ (b : Beginning) (beginning : IsReplayed old_catalog old_rows old_books base b []) where
    -- its end, at the offset
    pub stopped : position ≡ keep → HasStopped catalog rows books keep b log first
    stopped same =
        let entries = stopping.entries b beginning in
        record {
          es = entries.es;
          is = subst (λ (n : ℕ). IsReplayed catalog rows books n b entries.es) same entries.is;
          read = λ told. subst (λ (n : ℕ). HasRead b.place entries.es n (bytes_of first.files log)) same (entries.read told);
        }

    -- behind it: no entry ends there
    pub passed : (place : ℕ) → keep < position → StopCause log b keep first before (Damaged log place)
    passed place past = (
      refl,
      λ told.
          let entries = stopping.entries b beginning in
          let from : b.place ≤ keep = omega (arith, stopping.from, beginning.position_is) in
          passed_nowhere b entries.es position keep (bytes_of first.files log) from past entries.is.position_is entries.is.stored (entries.read told) entries.near,
      stopping.steady,
    )

    -- an entry that is not read
    pub stop_cause : (now : Seen) → position < keep → (fault : DatabaseFault) → LastCause log catalog rows books base position before now fault → StopCause log b keep first now fault
    stop_cause now below Missing cause = absurd cause
    stop_cause now below Exists cause = absurd cause
    stop_cause now below (Damaged file at) cause = (
      cause.0,
      λ told.
          let entries = stopping.entries b beginning in
          let bytes = bytes_of first.files log in
          let there : HasRead base entries.es position bytes = subst (λ (n : ℕ). HasRead n entries.es position bytes) (sym beginning.position_is) (entries.read told) in
          let are : AreAll b entries.es bytes =
          subst (λ (f : Files). AreAll b entries.es (bytes_of f log)) (stopping.alone.files told)
          (cause.1 (told_then first before stopping.alone.stays told) b entries.es beginning.position_is entries.is (subst (λ (f : Files). HasRead base entries.es position (bytes_of f log)) (sym (stopping.alone.files told)) there)) in
          let short : end_from b.place entries.es < keep = omega (arith, below, entries.is.position_is) in
          all_before b entries.es keep bytes short are,
      cause.2 ∙ stopping.steady,
    )
    stop_cause now below Disk cause =
        let later : first.disk_faults ≤ before.disk_faults = stopping.alone.stays.later in
        omega arith
    stop_cause now below (Full end need) cause = absurd cause
    stop_cause now below (Long size limit) cause = absurd cause
    stop_cause now below Memory cause = cause ∙ stopping.steady

-- want of memory behind it
pub memory_stop : {A : Type 0} (log : File) (b : Beginning) (keep : ℕ) (first now : Seen) → now.disk_faults ≡ first.disk_faults → (result : Result A DatabaseFault) → IfErr result (λ fault. fault ≡ Memory) → IfErr result (StopCause log b keep first now)
memory_stop log b keep first now steady (Ok found) cause = tt
memory_stop log b keep first now steady (Err fault) cause = subst (λ (f : DatabaseFault). StopCause log b keep first now f) (sym cause) steady
