-- The state at an offset of a log, and what is written of it.
use Rattle.std.proofs.Common.{◌≡◌, ◌≢◌, ℕ, ◌≤◌, List, ◌++◌, Result, Ok, Err, sym, ◌∙◌, ap, subst, arith}
use Rattle.std.proofs.lemmas.List.{map-append}
use Rattle.std.specs.Prelude.{IsTrue, IfOk, IfErr}
use Rattle.sr_database_files.proofs.Quiet.{read_then, told_then}
use Rattle.sr_database_files.specs.Inner.Openings.{ReadAlone, SnapshotCause}
use Rattle.sr_database_files.specs.declared.fault.DatabaseFault.{DatabaseFault}
use Rattle.sr_database_files.specs.declared.fault.DatabaseFault.TheVariants.{Missing, Exists, Damaged, Disk, Full, Long, Memory}
use Rattle.sr_database_history.specs.Folds.{end_from}
use Rattle.sr_database_history.specs.Recorded.{Recorded}
use Rattle.sr_database_meaning.proofs.Standing.{ends_are}
use Rattle.sr_database_meaning.specs.Generations.{Generation, snapshot_of, generation_of}
use Rattle.sr_database_meaning.specs.Standing.{body, bodies}
use Rattle.sr_database_replay.proofs.Fronts.{read_front}
use Rattle.sr_database_replay.proofs.Onward.{begins_from}
use Rattle.sr_database_replay.specs.Inner.Replays.{HasRead}
use Rattle.sr_database_replay.specs.Inner.Stops.{EndsNowhere, IsStateAt, StopCause}
use Rattle.sr_database_restart.proofs.Standing.{of_one}
use Rattle.sr_database_restart.specs.Inner.Generations.{IsLogFile}
use Rattle.sr_logfile.proofs.Uniqueness.{has_header}
use Rattle.sr_logfile.specs.Inner.Logs.{IsAt, IsLog}
use Rattle.sr_logfile.specs.Log.{Log}
use Rattle.sr_logfile.specs.Records.{HasHeader, Spells}
use Rattle.sr_logfile_carry.specs.Inner.Carrying.{IsParted}
use Rattle.sr_site.specs.Files.{Files, bytes_of}
use Rattle.sr_site.specs.Seen.{Seen}
use Rattle.sr_site.specs.declared.file.File.{File}
use Rattle.sr_snapshot.proofs.Uniqueness.{one_beginning}
use Rattle.sr_snapshot.specs.Beginnings.{Beginning, IsBeginning}
use Rattle.sr_snapshot.specs.Inner.Beginnings.{beginning_in}
use Rattle.sr_snapshot.specs.Snapshots.{IsSnapshot}
use Rattle.sr_snapshot.specs.declared.state.State.{State as Kept}
use Rattle.sr_snapshot_read.proofs.Exclusion.{damage_excludes}
use Rattle.sr_snapshot_read.specs.Damages.{IsDamagedSnapshot}
use Rattle.sr_database.specs.Inner.Restarts.{HasLogFrom, IsLogFrom, IsPartedAt, StateCause}

-- ---- a log behind a beginning

module _ (log : Log) (b : Beginning) (es : List Recorded) (seen : Seen) (from : IsLogFrom log b es seen) where
  pub its_generation : IsLogFile log.file × (generation_of log.file ≡ from.stands.generation)
  its_generation = of_one from.stands.generation log.file from.log_is

  pub its_spelling : Spells b.place (bodies es) (bytes_of seen.files log.file)
  its_spelling = subst (λ (f : File). Spells b.place (bodies es) (bytes_of seen.files f)) from.log_is from.stands.log

  pub its_snapshot : IsSnapshot b (bytes_of seen.files (snapshot_of (generation_of log.file)))
  its_snapshot = subst (λ (g : Generation). IsSnapshot b (bytes_of seen.files (snapshot_of g))) (sym its_generation.1) from.stands.snapshot

  its_log : IsLog log (bodies es) seen.files
  its_log = record {
    spells = subst (λ (n : ℕ). Spells n (bodies es) (bytes_of seen.files log.file)) (sym from.base_is) its_spelling;
    end_is = omega (arith, from.end_is, from.base_is, ends_are b.place es);
  }

  its_header : HasHeader b.place (bytes_of seen.files log.file)
  its_header =
      let spells = its_spelling in
      has_header b.place (bodies es) spells.gate (bytes_of seen.files log.file) spells.rest (omega (arith, spells.limit)) spells.bytes_are

  -- another snapshot of that generation is of the same beginning
  same_beginning : (found : Beginning) (snapshot : File) → snapshot ≡ snapshot_of (generation_of log.file) → IsSnapshot found (bytes_of seen.files snapshot) → found ≡ b
  same_beginning found snapshot is kept =
      one_beginning found b (bytes_of seen.files (snapshot_of (generation_of log.file))) (subst (λ (f : File). IsSnapshot found (bytes_of seen.files f)) is kept) its_snapshot

  -- an offset that parts the entries parts the log
  pub parts_there : (done left : List Recorded) (keep : ℕ) → es ≡ done ++ left → keep ≡ end_from b.place done → IsAt log keep (bodies done) (bodies left) seen.files
  parts_there done left keep parts keep_is = record {
    is_log = subst (λ (l : List (List ℕ)). IsLog log l seen.files) (ap bodies parts ∙ map-append body done left) its_log;
    after_is = omega (arith, keep_is, from.base_is, ends_are b.place done);
  }

-- ---- the state at an offset

module _ (log : Log) (keep : ℕ) (before first middle : Seen) (file snapshot : File) (file_is : file ≡ log.file) (snapshot_is : snapshot ≡ snapshot_of (generation_of file)) (one : ReadAlone before first) (two : ReadAlone first middle) where
  alone : ReadAlone before middle
  alone = read_then before first middle one two

  beside : snapshot ≡ snapshot_of (generation_of log.file)
  beside = snapshot_is ∙ ap (λ (f : File). snapshot_of (generation_of f)) file_is

  told_before : IsTrue middle.observable → IsTrue before.observable
  told_before told = subst IsTrue alone.stays.observable told

  -- the snapshot is damaged only where there is no beginning
  pub snapshot_state : first.disk_faults ≡ before.disk_faults → (fault : DatabaseFault) → SnapshotCause snapshot first middle fault → StateCause log keep before middle fault
  snapshot_state steady Missing cause = absurd cause
  snapshot_state steady Exists cause = absurd cause
  snapshot_state steady (Damaged damaged at) cause = (
    λ told b es from ends.
        let broken = subst (λ (f : Files). IsDamagedSnapshot (bytes_of f snapshot) at) (one.files told) (cause.1 (told_then before first one.stays told)) in
        damage_excludes b (bytes_of before.files (snapshot_of (generation_of log.file))) at (subst (λ (f : File). IsDamagedSnapshot (bytes_of before.files f) at) beside broken) (its_snapshot log b es before from),
    cause.2 ∙ steady,
  )
  snapshot_state steady Disk cause =
      let later : before.disk_faults ≤ first.disk_faults = one.stays.later in
      omega arith
  snapshot_state steady (Full end need) cause = absurd cause
  snapshot_state steady (Long size limit) cause = absurd cause
  snapshot_state steady Memory cause = cause ∙ steady

  module _ (found : Beginning) (kept : IsTrue first.observable → IsSnapshot found (bytes_of first.files snapshot)) where
    found_there : IsTrue before.observable → (b : Beginning) (es : List Recorded) → IsLogFrom log b es before → found ≡ b
    found_there told b es from =
        same_beginning log b es before from found snapshot beside (subst (λ (f : Files). IsSnapshot found (bytes_of f snapshot)) (one.files told) (kept (told_then before first one.stays told)))

    -- its offset is the base of the log
    pub other_place : found.place ≢ log.base → middle.disk_faults ≡ before.disk_faults → (at : ℕ) → StateCause log keep before middle (Damaged file at)
    other_place differs steady at = (λ told b es from ends. differs (ap (λ (x : Beginning). x.place) (found_there told b es from) ∙ sym from.base_is), steady)

    pub header_there : (IsTrue before.observable → HasLogFrom log before) → IsTrue middle.observable → HasHeader found.place (bytes_of middle.files file)
    header_there has told_middle =
        let told = told_before told_middle in
        let h = has told in
        let here : HasHeader found.place (bytes_of before.files log.file) =
        subst (λ (x : Beginning). HasHeader x.place (bytes_of before.files log.file)) (sym (found_there told h.beginning h.es h.is)) (its_header log h.beginning h.es before h.is) in
        subst (λ (f : Files). HasHeader found.place (bytes_of f file)) (sym (alone.files told)) (subst (λ (f : File). HasHeader found.place (bytes_of before.files f)) (sym file_is) here)

    -- what is found there parts the entries
    pub state_parted : (result : Result Kept DatabaseFault) → IsTrue before.observable → IfOk result (λ s. IsStateAt found keep file middle (beginning_in s)) → (b : Beginning) (es : List Recorded) → IsLogFrom log b es before
        → IfOk result (λ s. IsPartedAt b es keep (beginning_in s))
    state_parted (Ok s) told is b es from =
        let here : IsStateAt b keep file middle (beginning_in s) = subst (λ (x : Beginning). IsStateAt x keep file middle (beginning_in s)) (found_there told b es from) is in
        let there : HasRead b.place here.es keep (bytes_of before.files file) = subst (λ (f : Files). HasRead b.place here.es keep (bytes_of f file)) (alone.files told) (here.read (told_then before middle alone.stays told)) in
        let read : HasRead b.place here.es keep (bytes_of before.files log.file) = subst (λ (f : File). HasRead b.place here.es keep (bytes_of before.files f)) file_is there in
        let front = read_front b (bytes_of before.files log.file) es from.stands.stored (its_spelling log b es before from) here.es here.stored keep read in
        record { done = here.es; left = front.rest; parts = front.is; keep_is = here.keep_is; found_is = here.found_is }
    state_parted (Err fault) told is b es from = tt

    -- none is found only where the offset parts none
    pub state_refused : (now : Seen) → middle.disk_faults ≡ before.disk_faults → (fault : DatabaseFault) → StopCause file found keep middle now fault → StateCause log keep before now fault
    state_refused now steady Missing cause = absurd cause
    state_refused now steady Exists cause = absurd cause
    state_refused now steady (Damaged damaged at) cause = (
      λ told b es from ends.
          let none : EndsNowhere found keep (bytes_of before.files file) = subst (λ (f : Files). EndsNowhere found keep (bytes_of f file)) (alone.files told) (cause.1 (told_then before middle alone.stays told)) in
          let here : EndsNowhere b keep (bytes_of before.files log.file) =
          subst (λ (f : File). EndsNowhere b keep (bytes_of before.files f)) file_is (subst (λ (x : Beginning). EndsNowhere x keep (bytes_of before.files file)) (found_there told b es from) none) in
          here es from.stands.stored (its_spelling log b es before from) ends,
      cause.2 ∙ steady,
    )
    state_refused now steady Disk cause =
        let later : before.disk_faults ≤ middle.disk_faults = alone.stays.later in
        omega arith
    state_refused now steady (Full end need) cause = absurd cause
    state_refused now steady (Long size limit) cause = absurd cause
    state_refused now steady Memory cause = cause ∙ steady

    pub all_refused : (now : Seen) → middle.disk_faults ≡ before.disk_faults → (result : Result Kept DatabaseFault) → IfErr result (StopCause file found keep middle now) → IfErr result (StateCause log keep before now)
    all_refused now steady (Ok s) cause = tt
    all_refused now steady (Err fault) cause = state_refused now steady fault cause

-- it is a beginning, at the offset
pub state_begins : (found : Beginning) (keep : ℕ) (file : File) (seen : Seen) (result : Result Kept DatabaseFault) → IfOk result (λ s. IsStateAt found keep file seen (beginning_in s)) → IfOk result (λ s. IsBeginning (beginning_in s))
state_begins found keep file seen (Ok s) is = subst (λ (x : Beginning). IsBeginning x) (sym is.found_is) (begins_from found is.es is.begins is.stored)
state_begins found keep file seen (Err fault) is = tt

pub state_offset : (found : Beginning) (keep : ℕ) (file : File) (seen : Seen) (result : Result Kept DatabaseFault) → IfOk result (λ s. IsStateAt found keep file seen (beginning_in s)) → IfOk result (λ s. s.offset.0 ≡ keep)
state_offset found keep file seen (Ok s) is = ap (λ (x : Beginning). x.place) is.found_is ∙ sym is.keep_is
state_offset found keep file seen (Err fault) is = tt

-- ---- the log is parted there

pub is_parted : (log : Log) (keep offset : ℕ) (before now : Seen) → (told : IsTrue now.observable → IsTrue before.observable) → (IsTrue before.observable → now.files ≡ before.files) → offset ≡ keep → (IsTrue before.observable → HasLogFrom log before)
    → (found : Beginning) → (IsTrue before.observable → (b : Beginning) (es : List Recorded) → IsLogFrom log b es before → IsPartedAt b es keep found) → IsTrue now.observable → IsParted log offset now.files
is_parted log keep offset before now told files same has found parted there =
    let at = told there in
    let h = has at in
    let p = parted at h.beginning h.es h.is in
    let here : IsAt log keep (bodies p.done) (bodies p.left) before.files = parts_there log h.beginning h.es before h.is p.done p.left keep p.parts p.keep_is in
    subst (λ (f : Files). IsParted log offset f) (sym (files at)) (subst (λ (n : ℕ). IsParted log n before.files) (sym same) (record { done = bodies p.done; left = bodies p.left; parts = here }))
