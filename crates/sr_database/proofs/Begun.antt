-- The files of a database begun anew behind the state that was found.
use Rattle.std.proofs.Common.{◌≡◌, ◌≢◌, ◌⊎◌, inl, inr, ℕ, ◌≤◌, ◌<◌, List, [], ◌++◌, length, refl, sym, ◌∙◌, ap, subst}
use Rattle.std.proofs.lemmas.Bool.{cases_lt}
use Rattle.std.specs.Prelude.{IsTrue}
use Rattle.sr_catalog_schema.specs.Catalogs.{Lists}
use Rattle.sr_database_files.proofs.Quiet.{told_then}
use Rattle.sr_database_files.specs.Inner.Openings.{ReadAlone}
use Rattle.sr_database_files.specs.declared.fault.DatabaseFault.{DatabaseFault}
use Rattle.sr_database_files.specs.declared.fault.DatabaseFault.TheVariants.{Missing, Exists, Damaged, Disk, Full, Long, Memory}
use Rattle.sr_database_history.specs.Folds.{end_from}
use Rattle.sr_database_history.specs.Recorded.{Recorded}
use Rattle.sr_database_meaning.proofs.Standing.{one_part}
use Rattle.sr_database_meaning.specs.Events.{attaches_in, puts_in}
use Rattle.sr_database_meaning.specs.Generations.{Generation, generation_of}
use Rattle.sr_database_meaning.specs.Restarts.{IsQuiet}
use Rattle.sr_database_meaning.specs.Standing.{bodies}
use Rattle.sr_database_replay.specs.Stops.{beginning_from}
use Rattle.sr_database_restart.specs.Inner.Restarting.{IsRestarted, KeepsInForce, RestartCause, WentOn, WentOver}
use Rattle.sr_database_restart.specs.declared.fault.RestartFault.{RestartFault}
use Rattle.sr_database_restart.specs.declared.fault.RestartFault.TheVariants as restarts
use Rattle.sr_logfile.specs.Inner.Logs.{IsAt}
use Rattle.sr_logfile.specs.Log.{Log}
use Rattle.sr_logfile_carry.specs.Inner.Carrying.{log_of_records}
use Rattle.sr_site.specs.Causes.{Rose}
use Rattle.sr_site.specs.Files.{Files}
use Rattle.sr_site.specs.Images.{RestsThroughout}
use Rattle.sr_site.specs.Seen.{Seen}
use Rattle.sr_site.specs.declared.file.File.{File}
use Rattle.sr_snapshot.specs.Beginnings.{Beginning}
use Rattle.sr_snapshot.specs.Parts.{longest}
use Rattle.sr_snapshot.specs.Snapshots.{snapshot_spelling}
use Rattle.sr_database.proofs.StatesBehind.{parts_there}
use Rattle.sr_database.specs.Inner.Restarts.{BeginCause, HasBegun, IsLogFrom, IsLongAt, IsPartedAt, IsRestartFault, MayGoAnew, StateCause}

-- ---- reads

-- a site that was read is the same
pub same_seen : (before middle : Seen) → ReadAlone before middle → middle.disk_faults ≡ before.disk_faults → IsTrue before.observable → middle ≡ before
same_seen before middle read steady told =
    λ i. record {
      observable = read.stays.observable i;
      files = read.files told i;
      first = read.stays.first i;
      happened = read.happened told i;
      disk_faults = steady i;
      mail_faults = read.stays.mail_faults i;
    }

pub kept_read : (generation : Generation) (before now : Seen) → ReadAlone before now → IsTrue before.observable → RestsThroughout (KeepsInForce generation before) before now
kept_read generation before now read told = record { more = []; is = read.happened told; moments = λ image there. record { old = image; stood = there; agrees = record { root = refl; snapshot = refl; log = refl } } }

pub quiet_read : (before now : Seen) → ReadAlone before now → IsTrue before.observable → IsQuiet before.happened now.happened
quiet_read before now read told = record { attached = ap attaches_in (read.happened told); put = ap puts_in (read.happened told) }

-- a state that is not found
pub state_cause : (log : Log) (keep : ℕ) (before now : Seen) (fault : DatabaseFault) → StateCause log keep before now fault → BeginCause log keep before now fault
state_cause log keep before now Missing cause = absurd cause
state_cause log keep before now Exists cause = absurd cause
state_cause log keep before now (Damaged file at) cause = cause
state_cause log keep before now Disk cause = cause
state_cause log keep before now (Full end need) cause = absurd cause
state_cause log keep before now (Long size limit) cause = absurd cause
state_cause log keep before now Memory cause = cause

-- ---- behind the state that was found

-- the fault was not the disk's
pub not_disk : (fault : RestartFault) (answer : DatabaseFault) → IsRestartFault fault answer → answer ≢ Disk → fault ≢ restarts.Disk
not_disk restarts.Disk answer is other same = other is
not_disk restarts.Memory answer is other same = cc
not_disk (restarts.Long size limit) answer is other same = cc
not_disk (restarts.Damaged file at) answer is other same = cc

module _ (log : Log) (keep : ℕ) (before middle now : Seen) (alone : ReadAlone before middle) (steady : middle.disk_faults ≡ before.disk_faults) (found : Beginning) where
  -- the offset, the parts of the log and the state, said of what stood before
  its_place : (b : Beginning) (es : List Recorded) → IsPartedAt b es keep found → found.place ≡ keep
  its_place b es p = ap (λ (x : Beginning). x.place) p.found_is ∙ sym p.keep_is

  module _ (told : IsTrue before.observable) (b : Beginning) (es : List Recorded) (from : IsLogFrom log b es before) (p : IsPartedAt b es keep found) where
    its_parts : IsAt log found.place (bodies p.done) (bodies p.left) middle.files
    its_parts =
        subst (λ (f : Files). IsAt log found.place (bodies p.done) (bodies p.left) f) (sym (alone.files told))
        (subst (λ (n : ℕ). IsAt log n (bodies p.done) (bodies p.left) before.files) (sym (its_place b es p)) (parts_there log b es before from p.done p.left keep p.parts p.keep_is))

    pub has_begun : (base_catalog : Lists) → base_catalog ≡ found.state.catalog → length (snapshot_spelling found) ≤ longest
        → ((done left : List (List ℕ)) → IsAt log found.place done left middle.files → IsRestarted (generation_of log.file) (snapshot_spelling found) (log_of_records found.place left) middle now)
        → HasBegun log keep b es before now base_catalog
    has_begun base_catalog catalog_is short restarted = record {
      done = p.done;
      left = p.left;
      parts = p.parts;
      keep_is = p.keep_is;
      catalog_is = catalog_is ∙ ap (λ (x : Beginning). x.state.catalog) p.found_is;
      short = subst (λ (x : Beginning). length (snapshot_spelling x) ≤ longest) p.found_is short;
      restarted =
          subst (λ (x : Beginning). IsRestarted (generation_of log.file) (snapshot_spelling x) (log_of_records keep (bodies p.left)) before now) p.found_is
          (subst (λ (n : ℕ). IsRestarted (generation_of log.file) (snapshot_spelling found) (log_of_records n (bodies p.left)) before now) (its_place b es p)
          (subst (λ (s : Seen). IsRestarted (generation_of log.file) (snapshot_spelling found) (log_of_records found.place (bodies p.left)) s now) (same_seen before middle alone steady told)
          (restarted (bodies p.done) (bodies p.left) its_parts)));
    }

    went_anew : length (snapshot_spelling found) ≤ longest → WentOn (generation_of log.file) (snapshot_spelling found) (log_of_records found.place (bodies p.left)) before now → MayGoAnew log keep b es before now
    went_anew short (inl rests) = inl rests
    went_anew short (inr went) = inr (record {
      done = p.done;
      left = p.left;
      parts = p.parts;
      keep_is = p.keep_is;
      short = subst (λ (x : Beginning). length (snapshot_spelling x) ≤ longest) p.found_is short;
      went =
          subst (λ (x : Beginning). WentOver (generation_of log.file) (snapshot_spelling x) (log_of_records keep (bodies p.left)) before now) p.found_is
          (subst (λ (n : ℕ). WentOver (generation_of log.file) (snapshot_spelling found) (log_of_records n (bodies p.left)) before now) (its_place b es p) went);
    })

    pub may_go : (length (snapshot_spelling found) ≤ longest) ⊎ (now ≡ middle)
        → ((done left : List (List ℕ)) → IsAt log found.place done left middle.files → WentOn (generation_of log.file) (snapshot_spelling found) (log_of_records found.place left) middle now)
        → MayGoAnew log keep b es before now
    may_go (inl short) moments =
        went_anew short
        (subst (λ (s : Seen). WentOn (generation_of log.file) (snapshot_spelling found) (log_of_records found.place (bodies p.left)) s now) (same_seen before middle alone steady told) (moments (bodies p.done) (bodies p.left) its_parts))
    may_go (inr still) moments = inl (kept_read (generation_of log.file) before now (subst (λ (s : Seen). ReadAlone before s) (sym still) alone) told)

  pub stopped_before : IsTrue before.observable → RestsThroughout (KeepsInForce (generation_of log.file) middle) middle now → RestsThroughout (KeepsInForce (generation_of log.file) before) before now
  stopped_before told rests = subst (λ (s : Seen). RestsThroughout (KeepsInForce (generation_of log.file) s) s now) (same_seen before middle alone steady told) rests

  -- where the snapshot is too long nothing happened
  pub short_or_still : (file : File) (fault : RestartFault) → RestartCause (length (snapshot_spelling found)) file middle now fault → (length (snapshot_spelling found) ≤ longest) ⊎ (now ≡ middle)
  short_or_still file restarts.Disk cause = inl cause.0
  short_or_still file restarts.Memory cause = by (cases_lt longest (length (snapshot_spelling found)))
    where
      by : (longest < length (snapshot_spelling found)) ⊎ (length (snapshot_spelling found) ≤ longest) → (length (snapshot_spelling found) ≤ longest) ⊎ (now ≡ middle)
      by (inl long) = inr (cause.1 long)
      by (inr short) = inl short
  short_or_still file (restarts.Long size limit) cause = inr cause.3
  short_or_still file (restarts.Damaged other at) cause = inl cause.2

  -- ---- why not

  module _ (parted : IsTrue before.observable → (b : Beginning) (es : List Recorded) → IsLogFrom log b es before → IsPartedAt b es keep found) where
    -- the entries are parted there in one way
    its_size : IsTrue before.observable → (b : Beginning) (done left : List Recorded) → IsLogFrom log b (done ++ left) before → keep ≡ end_from b.place done → length (snapshot_spelling found) ≡ length (snapshot_spelling (beginning_from b done))
    its_size told b done left from keep_is =
        let p = parted told b (done ++ left) from in
        let same : p.done ≡ done = (one_part b.place p.done p.left done left (sym p.parts) (sym p.keep_is ∙ keep_is)).0 in
        ap (λ (x : Beginning). length (snapshot_spelling x)) p.found_is ∙ ap (λ (ds : List Recorded). length (snapshot_spelling (beginning_from b ds))) same

    pub begin_cause : (fault : RestartFault) (answer : DatabaseFault) → IsRestartFault fault answer → RestartCause (length (snapshot_spelling found)) log.file middle now fault → BeginCause log keep before now answer
    begin_cause restarts.Disk answer is cause = subst (λ (a : DatabaseFault). BeginCause log keep before now a) (sym is) (subst (λ (n : ℕ). Rose n now.disk_faults) steady cause.1)
    begin_cause restarts.Memory answer is cause = subst (λ (a : DatabaseFault). BeginCause log keep before now a) (sym is) (cause.0 ∙ steady)
    begin_cause (restarts.Long size limit) answer is cause =
        let long : longest < size = subst (λ (n : ℕ). longest < n) (sym cause.0) cause.2 in
        let at : IsLongAt log keep before size limit = record { long = long; limit_is = cause.1; size_is = λ told b done left from keep_is. cause.0 ∙ its_size told b done left from keep_is } in
        subst (λ (a : DatabaseFault). BeginCause log keep before now a) (sym is)
        (at, record { read = subst (λ (s : Seen). ReadAlone before s) (sym cause.3) alone; steady = ap (λ (s : Seen). s.disk_faults) cause.3 ∙ steady })
    begin_cause (restarts.Damaged file at) answer is cause =
        subst (λ (a : DatabaseFault). BeginCause log keep before now a) (sym is) (λ told b es from ends. cause.1 (told_then before middle alone.stays told), cause.3 ∙ steady)
