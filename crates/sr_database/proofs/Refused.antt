-- Why an opening is refused, from the refusals of its steps; and what stands where it is not.
use Rattle.std.proofs.Common.{◌≡◌, inl, inr, ℕ, ◌≤◌, List, Result, Ok, Err, sym, ◌∙◌, subst, arith}
use Rattle.std.specs.Prelude.{IsTrue, IfOk, IfErr}
use Rattle.sr_book.specs.Entries.{Name}
use Rattle.sr_database_history.specs.Recorded.{Recorded}
use Rattle.sr_site.specs.Files.{Files, bytes_of}
use Rattle.sr_site.specs.Seen.{Seen}
use Rattle.sr_site.specs.declared.file.File.{File}
use Rattle.sr_snapshot.specs.Beginnings.{Beginning, beginning_behind}
use Rattle.sr_snapshot.specs.Snapshots.{IsSnapshot}
use Rattle.sr_snapshot_read.specs.Damages.{IsDamagedSnapshot}
use Rattle.sr_database_files.specs.Damage.{LacksEntry, IsDamagedLog, HasDamagedSnapshot, HasDamagedLog, IsDamagedAt}
use Rattle.sr_database_meaning.specs.Generations.{Generation, even, odd, snapshot_of, log_of}
use Rattle.sr_database_meaning.specs.Standing.{StandsFor, StandFrom}
use Rattle.sr_database_meaning.proofs.Standing.{stand_behind}
use Rattle.sr_database_files.proofs.Damaged.{behind_is_not_missing, behind_is_not_damaged}
use Rattle.sr_database.specs.Inner.Causes.{OpenCause, IsDiskOrMemory}
use Rattle.sr_database.specs.Databases.{IsDatabase, IsDatabaseFrom, HasBeginning}
use Rattle.sr_database.specs.InForce.{HasLogInForce}
use Rattle.sr_database_files.specs.Inner.Openings.{SyncedAlone, AreInForce, RootCause, SnapshotCause, IsWholeLog, IsDamagedShape, ShapeCause, LogCause}
use Rattle.sr_database_replay.specs.Inner.Replays.{LacksNext, ReplayCause}
use Rattle.sr_database.specs.Views.{View}
use Rattle.sr_database_files.specs.declared.fault.DatabaseFault.{DatabaseFault}
use Rattle.sr_database_files.specs.declared.fault.DatabaseFault.TheVariants.{Missing, Exists, Damaged, Disk, Full, Long, Memory}
use Rattle.sr_database.proofs.Opened.{its_beginning, its_history, in_force_from}

-- ---- the steps of an opening

pub root_cause : (before now : Seen) (fault : DatabaseFault) → RootCause before now fault → OpenCause before now fault
root_cause before now Missing cause = cause
root_cause before now Exists cause = absurd cause
root_cause before now (Damaged file at) cause = absurd cause
root_cause before now Disk cause = cause
root_cause before now (Full end need) cause = absurd cause
root_cause before now (Long size limit) cause = absurd cause
root_cause before now Memory cause = absurd cause

-- the damage of a generation's files is that of the database
snapshot_at_file : (g : Generation) (at : ℕ) (files : Files) → HasDamagedSnapshot g files at → IsDamagedAt (snapshot_of g) at files
snapshot_at_file even at files d = d
snapshot_at_file odd at files d = d

log_at_file : (g : Generation) (at : ℕ) (files : Files) → HasDamagedLog g files at → IsDamagedAt (log_of g) at files
log_at_file even at files d = d
log_at_file odd at files d = d

-- a later step of the opening, behind a root that names a generation
module _ (start before now : Seen) (snapshot log : File) (alone : SyncedAlone start before) (named : AreInForce snapshot log start) (steady : before.disk_faults ≡ start.disk_faults) where
  at_told : IsTrue start.observable → IsTrue before.observable
  at_told is = subst IsTrue (sym alone.stays.observable) is

  files : IsTrue start.observable → before.files ≡ start.files
  files is = (alone.only is).files

  pub snapshot_cause : (fault : DatabaseFault) → SnapshotCause snapshot before now fault → OpenCause start now fault
  snapshot_cause Missing cause = absurd cause
  snapshot_cause Exists cause = absurd cause
  snapshot_cause (Damaged file at) cause = (
    λ is.
        let g = named.generation in
        let broken = subst (λ (f : Files). IsDamagedSnapshot (bytes_of f snapshot) at) (files is) (cause.1 (at_told is)) in
        subst (λ (f : File). IsDamagedAt f at start.files) (sym (cause.0 ∙ named.snapshot_is))
        (snapshot_at_file g at start.files (record { root = named.named is; broken = subst (λ (s : File). IsDamagedSnapshot (bytes_of start.files s) at) named.snapshot_is broken })),
    cause.2 ∙ steady,
  )
  snapshot_cause Disk cause = let later : start.disk_faults ≤ before.disk_faults = alone.stays.later in omega arith
  snapshot_cause (Full end need) cause = absurd cause
  snapshot_cause (Long size limit) cause = absurd cause
  snapshot_cause Memory cause = cause ∙ steady

  log_cause : (b : Beginning) → (IsTrue start.observable → IsSnapshot b (bytes_of start.files snapshot)) → (fault : DatabaseFault) → LogCause log b before now fault → OpenCause start now fault
  log_cause b whole Missing cause = absurd cause
  log_cause b whole Exists cause = absurd cause
  log_cause b whole (Damaged file at) cause = (
    λ is.
        let g = named.generation in
        let damage = subst (λ (f : Files). IsDamagedLog b (bytes_of f log) at) (files is) (cause.1 (at_told is)) in
        subst (λ (f : File). IsDamagedAt f at start.files) (sym (cause.0 ∙ named.log_is))
        (log_at_file g at start.files (record {
          root = named.named is;
          beginning = b;
          snapshot = subst (λ (s : File). IsSnapshot b (bytes_of start.files s)) named.snapshot_is (whole is);
          damage = subst (λ (l : File). IsDamagedLog b (bytes_of start.files l) at) named.log_is damage;
        })),
    cause.2 ∙ steady,
  )
  log_cause b whole Disk cause = let later : start.disk_faults ≤ before.disk_faults = alone.stays.later in omega arith
  log_cause b whole (Full end need) cause = absurd cause
  log_cause b whole (Long size limit) cause = absurd cause
  log_cause b whole Memory cause = cause ∙ steady

  -- the snapshot was read before that, and nothing but syncs happened since
  pub log_refused : (b : Beginning) (middle : Seen) → SyncedAlone start middle → (IsTrue middle.observable → IsSnapshot b (bytes_of middle.files snapshot)) → (result : Result View DatabaseFault) → IfErr result (LogCause log b before now) → IfErr result (OpenCause start now)
  log_refused b middle earlier kept (Ok db) cause = tt
  log_refused b middle earlier kept (Err fault) cause = log_cause b whole fault cause
    where
      whole : IsTrue start.observable → IsSnapshot b (bytes_of start.files snapshot)
      whole is = subst (λ (f : Files). IsSnapshot b (bytes_of f snapshot)) (earlier.only is).files (kept (subst IsTrue (sym earlier.stays.observable) is))

-- the refusal of header and records is the log's
of_shape : (b : Beginning) (bytes : List ℕ) (at : ℕ) → IsDamagedShape b.place bytes at → IsDamagedLog b bytes at
of_shape b bytes at (inl lacks) = inl lacks
of_shape b bytes at (inr (inl other)) = inr (inl other)
of_shape b bytes at (inr (inr broken)) = inr (inr (inl broken))

pub shape_cause : (log : File) (b : Beginning) (before now : Seen) (fault : DatabaseFault) → ShapeCause b.place log before now fault → LogCause log b before now fault
shape_cause log b before now Missing cause = absurd cause
shape_cause log b before now Exists cause = absurd cause
shape_cause log b before now (Damaged file at) cause = (cause.0, λ is. of_shape b (bytes_of before.files log) at (cause.1 is), cause.2)
shape_cause log b before now Disk cause = cause
shape_cause log b before now (Full end need) cause = absurd cause
shape_cause log b before now (Long size limit) cause = absurd cause
shape_cause log b before now Memory cause = absurd cause

-- where all records are whole, the refusal of the reading is the log's
lacks_entry : (b : Beginning) (bytes : List ℕ) (place : ℕ) → IsWholeLog b.place bytes → LacksNext b bytes place → LacksEntry b bytes place
lacks_entry b bytes place whole d =
    record { all = whole.all; spells = whole.spells; es = d.es; rest = d.rest; bytes_are = d.bytes_are; place_is = d.place_is; stored = d.stored; broken = d.broken }

module _ (log : File) (b : Beginning) (start before now : Seen) (alone : SyncedAlone start before) (whole : IsTrue start.observable → IsWholeLog b.place (bytes_of start.files log)) (steady : before.disk_faults ≡ start.disk_faults) where
  replay_cause : (fault : DatabaseFault) → ReplayCause log b before now fault → LogCause log b start now fault
  replay_cause Missing cause = absurd cause
  replay_cause Exists cause = absurd cause
  replay_cause (Damaged file at) cause = (
    cause.0,
    λ is.
        let lacks : LacksNext b (bytes_of start.files log) at = subst (λ (f : Files). LacksNext b (bytes_of f log) at) (alone.only is).files (cause.1 (subst IsTrue (sym alone.stays.observable) is)) in
        inr (inr (inr (lacks_entry b (bytes_of start.files log) at (whole is) lacks))),
    cause.2 ∙ steady,
  )
  replay_cause Disk cause = let later : start.disk_faults ≤ before.disk_faults = alone.stays.later in omega arith
  replay_cause (Full end need) cause = absurd cause
  replay_cause (Long size limit) cause = absurd cause
  replay_cause Memory cause = cause ∙ steady

  pub entries_refused : (result : Result View DatabaseFault) → IfErr result (ReplayCause log b before now) → IfErr result (LogCause log b start now)
  entries_refused (Ok db) cause = tt
  entries_refused (Err fault) cause = replay_cause fault cause

-- ---- files that stand for a history, or behind a beginning

not_refused_behind : (before now : Seen) (b : Beginning) (es : List Recorded) → IsTrue before.observable → StandFrom b es before.files → (fault : DatabaseFault) → OpenCause before now fault → IsDiskOrMemory fault
not_refused_behind before now b es told stands Missing cause = absurd (behind_is_not_missing b es before.files stands (cause.0 told))
not_refused_behind before now b es told stands Exists cause = absurd cause
not_refused_behind before now b es told stands (Damaged file at) cause = absurd (behind_is_not_damaged b es before.files stands at file (cause.0 told))
not_refused_behind before now b es told stands Disk cause = tt
not_refused_behind before now b es told stands (Full end need) cause = absurd cause
not_refused_behind before now b es told stands (Long size limit) cause = absurd cause
not_refused_behind before now b es told stands Memory cause = tt

pub stood_behind : (before now : Seen) (b : Beginning) (es : List Recorded) (result : Result View DatabaseFault) → IsTrue before.observable → now.files ≡ before.files → StandFrom b es before.files → IfOk result (λ db. HasBeginning db now) → IfErr result (OpenCause before now)
    → IfOk result (λ db. IsDatabaseFrom db b es now) × IfErr result IsDiskOrMemory
stood_behind before now b es (Ok db) told same stands has cause = (its_beginning db b es before.files now has same stands, tt)
stood_behind before now b es (Err fault) told same stands has cause = (tt, not_refused_behind before now b es told stands fault cause)

pub stood : (before now : Seen) (publisher : Name) (es : List Recorded) (base : ℕ) (result : Result View DatabaseFault) → IsTrue before.observable → now.files ≡ before.files → StandsFor publisher es base before.files → IfOk result (λ db. HasBeginning db now) → IfErr result (OpenCause before now)
    → IfOk result (λ db. IsDatabase db publisher es now) × IfErr result IsDiskOrMemory
stood before now publisher es base (Ok db) told same stands has cause = (its_history db publisher es base before.files now has same stands, tt)
stood before now publisher es base (Err fault) told same stands has cause =
    (tt, not_refused_behind before now (beginning_behind publisher stands.done) stands.left told (stand_behind publisher es base before.files stands) fault cause)

-- what is opened has its log in force, and is sound
pub opened_in_force : (now : Seen) (result : Result View DatabaseFault) → IfOk result (λ db. HasBeginning db now) → IfOk result (λ db. HasLogInForce db now)
opened_in_force now (Ok db) has = in_force_from db now has
opened_in_force now (Err fault) has = tt
