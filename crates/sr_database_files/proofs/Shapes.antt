-- Which files a root puts in force, and the shape of a log: its header and its records.
use Rattle.std.proofs.Common.{◌≡◌, ◌⊎◌, inl, inr, ℕ, ◌≤◌, ◌^◌, List, [], ◌∷◌, length, take, get_or, refl, sym, ◌∙◌, ap, subst, arith}
use Rattle.std.specs.Prelude.{IsTrue}
use Rattle.std.proofs.lemmas.List.{nil_from_length}
use Rattle.sr_logfile.specs.Damage.{IsDamaged}
use Rattle.sr_logfile.specs.Inner.Faults.{HeaderCause, OpenCause}
use Rattle.sr_logfile.specs.declared.fault.LogFault.{LogFault}
use Rattle.sr_logfile.specs.declared.fault.LogFault.TheVariants as logs
use Rattle.sr_logfile.specs.Log.{Log}
use Rattle.sr_logfile.specs.Inner.Logs.{HasLog}
use Rattle.sr_logfile.specs.Records.{HasHeader, Spells}
use Rattle.sr_logfile.proofs.Uniqueness.{has_header, same_header}
use Rattle.sr_site.specs.Causes.{Rose}
use Rattle.sr_site.specs.Files.{Files, bytes_of}
use Rattle.sr_site.specs.Reads.{HasRead}
use Rattle.sr_site.specs.Seen.{Seen}
use Rattle.sr_site.specs.declared.file.File.{File}
use Rattle.sr_site.specs.declared.file.File.TheVariants.{Root}
use Rattle.sr_database_files.specs.Damage.{HasOtherBase}
use Rattle.sr_database_meaning.specs.Generations.{generation_in, snapshot_of, log_of}
use Rattle.sr_database_files.specs.Inner.Openings.{BeginsWithByte, named_by, AreInForce, IsDamagedHeader, BaseCause, IsWholeLog, IsDamagedShape, ShapeCause, IsLogFault, HasRefused, HasFoundDamage, ShapeRefusal}
use Rattle.sr_database_files.specs.declared.fault.DatabaseFault.{DatabaseFault}
use Rattle.sr_database_files.specs.declared.fault.DatabaseFault.TheVariants.{Missing, Exists, Damaged, Disk, Full, Long, Memory}

-- ---- the root

pub no_byte : (before now : Seen) (count : ℕ) → (IsTrue before.observable → now.files ≡ before.files) → (IsTrue before.observable → IsTrue now.observable) → (IsTrue now.observable → count ≡ length (bytes_of now.files Root)) → count ≡ 0 → IsTrue before.observable → before.files.root ≡ []
no_byte before now count files at is none told = nil_from_length before.files.root (ap (λ (f : Files). length f.root) (sym (files told)) ∙ sym (is (at told)) ∙ none)

begins : (root : List ℕ) (byte count : ℕ) → ¬ (length root ≡ 0) → HasRead root 0 1 count (byte ∷ []) → BeginsWithByte byte root
begins [] byte count some read = absurd (some refl)
begins (first ∷ rest) byte count some read =
    let one : count ≡ 1 = omega (arith, read.count_is) in
    let same : byte ∷ [] ≡ first ∷ [] = subst (λ (n : ℕ). take n (byte ∷ []) ≡ take 1 (first ∷ rest)) one read.prefix in
    let heads : first ≡ byte = cc in
    record { rest = rest; is = λ i. heads i ∷ rest }

one_byte : (prefix : List ℕ) → length prefix ≡ 1 → prefix ≡ get_or prefix 0 0 ∷ []
one_byte [] one = cc
one_byte (byte ∷ []) one = refl
one_byte (byte ∷ (other ∷ rest)) one = absurd (omega arith)

pub begins_with : (root prefix : List ℕ) (count size : ℕ) → size ≡ length root → ¬ (size ≡ 0) → length prefix ≡ 1 → HasRead root 0 1 count prefix → BeginsWithByte (get_or prefix 0 0) root
begins_with root prefix count size is some one read = begins root (get_or prefix 0 0) count (λ none. some (is ∙ none)) (subst (λ (l : List ℕ). HasRead root 0 1 count l) (one_byte prefix one) read)

pub are_in_force : (snapshot log : File) (byte : ℕ) (seen : Seen) → snapshot ≡ snapshot_of (named_by byte) → log ≡ log_of (named_by byte) → (IsTrue seen.observable → BeginsWithByte byte seen.files.root) → AreInForce snapshot log seen
are_in_force snapshot log byte seen one other first = record { generation = named_by byte; snapshot_is = one; log_is = other; named = λ told. ap generation_in (first told).is }

-- ---- a log's header

pub other_base : (base other : ℕ) (bytes : List ℕ) → HasHeader other bytes → ¬ (other ≡ base) → HasOtherBase base bytes
other_base base other bytes has differs = record { other = other; header = has; differs = differs }

pub its_base : (base other : ℕ) (bytes : List ℕ) → HasHeader other bytes → other ≡ base → HasHeader base bytes
its_base base other bytes has same = subst (λ (b : ℕ). HasHeader b bytes) same has

pub whole_header : (base : ℕ) (bytes : List ℕ) → IsWholeLog base bytes → HasHeader base bytes
whole_header base bytes whole = let s = whole.spells in has_header base whole.all s.gate bytes s.rest (let le : base ≤ 2 ^ 62 = let limit = s.limit in omega arith in le) s.bytes_are

-- two headers in one file have one base
same_base : (base other : ℕ) (bytes : List ℕ) → HasHeader base bytes → HasHeader other bytes → other ≡ base
same_base base other bytes first has = (same_header other base (has.gate ∷ has.rest) (first.gate ∷ first.rest) has.limit first.limit (sym has.bytes_are ∙ first.bytes_are)).0

-- ---- its shape

damaged_shape : (base : ℕ) (bytes : List ℕ) (place : ℕ) → HasHeader base bytes → IsDamaged bytes place → IsDamagedShape base bytes place
damaged_shape base bytes place first (inl lacks) = inl lacks
damaged_shape base bytes place first (inr lacks) =
    inr (inr (record { lacks = lacks; base_is = same_base base lacks.base bytes first (has_header lacks.base lacks.bodies 1 bytes lacks.rest (let le : lacks.base ≤ 2 ^ 62 = let limit = lacks.limit in omega arith in le) lacks.bytes_are) }))

-- what the log's own opening found
module _ (base : ℕ) (log : File) (before now : Seen) (files : IsTrue before.observable → now.files ≡ before.files) where
  header_of : (found : Log) → found.file ≡ log → HasLog found now.files → IsTrue before.observable → HasHeader found.base (bytes_of before.files log)
  header_of found is has told =
      let s = has.is_log.spells in
      let bytes : bytes_of now.files found.file ≡ bytes_of before.files log = ap (λ (f : File). bytes_of now.files f) is ∙ ap (λ (f : Files). bytes_of f log) (files told) in
      subst (λ (l : List ℕ). HasHeader found.base l) bytes (has_header found.base has.bodies s.gate (bytes_of now.files found.file) s.rest (let le : found.base ≤ 2 ^ 62 = let limit = s.limit in omega arith in le) s.bytes_are)

  pub whole_found : (found : Log) → found.file ≡ log → found.base ≡ base → (IsTrue before.observable → HasLog found now.files) → IsTrue before.observable → IsWholeLog base (bytes_of before.files log)
  whole_found found is same has told =
      let bytes : bytes_of now.files found.file ≡ bytes_of before.files log = ap (λ (f : File). bytes_of now.files f) is ∙ ap (λ (f : Files). bytes_of f log) (files told) in
      record { all = (has told).bodies; spells = subst (λ (l : List ℕ). Spells base (has told).bodies l) bytes (subst (λ (b : ℕ). Spells b (has told).bodies (bytes_of now.files found.file)) same (has told).is_log.spells) }

  pub based_elsewhere : (found : Log) → found.file ≡ log → ¬ (found.base ≡ base) → (IsTrue before.observable → HasLog found now.files) → now.disk_faults ≡ before.disk_faults → ShapeCause base log before now (Damaged log 8)
  based_elsewhere found is differs has steady = (refl, λ told. inr (inl (other_base base found.base (bytes_of before.files log) (header_of found is (has told) told) differs, refl)), steady)

-- the header, looked at after that
of_header : (base : ℕ) (bytes : List ℕ) (place : ℕ) → IsDamagedHeader base bytes place → IsDamagedShape base bytes place
of_header base bytes place (inl lacks) = inl lacks
of_header base bytes place (inr other) = inr (inl other)

pub header_cause : (base : ℕ) (log : File) (before now : Seen) (fault : LogFault) (answer : DatabaseFault) → IsLogFault log fault answer → HeaderCause log before now fault → BaseCause base log before now answer
header_cause base log before now logs.Disk answer is cause = subst (λ (a : DatabaseFault). BaseCause base log before now a) (sym is) cause
header_cause base log before now (logs.Full end need) answer is cause = absurd cause
header_cause base log before now (logs.Damaged at) answer is cause = subst (λ (a : DatabaseFault). BaseCause base log before now a) (sym is) (refl, λ told. inl (cause.1 told, cause.0), cause.2)

module _ (base : ℕ) (log : File) (fault : LogFault) (before now : Seen) where
  pub shape_damaged : (at : ℕ) → fault ≡ logs.Damaged at → HasRefused fault log before → (IsTrue before.observable → HasHeader base (bytes_of before.files log)) → now.disk_faults ≡ before.disk_faults → ShapeRefusal base log fault before now (Damaged log at)
  shape_damaged at is refused header steady =
      (refl, λ told. damaged_shape base (bytes_of before.files log) at (header told) (subst (λ (f : LogFault). HasRefused f log before) is refused told), steady, subst HasFoundDamage (sym is) tt)

  pub base_refused : HasFoundDamage fault → (answer : DatabaseFault) → BaseCause base log before now answer → ShapeRefusal base log fault before now answer
  base_refused found Missing cause = absurd cause
  base_refused found Exists cause = absurd cause
  base_refused found (Damaged file at) cause = (cause.0, λ told. of_header base (bytes_of before.files log) at (cause.1 told), cause.2, found)
  base_refused found Disk cause = inr cause
  base_refused found (Full end need) cause = absurd cause
  base_refused found (Long size limit) cause = absurd cause
  base_refused found Memory cause = absurd cause

  pub never_full : (end need : ℕ) → fault ≡ logs.Full end need → HasRefused fault log before → ShapeRefusal base log fault before now Disk
  never_full end need is refused = absurd (subst (λ (f : LogFault). HasRefused f log before) is refused)

-- the refusal of the log's own opening
pub has_refused : (log : File) (before middle : Seen) → middle.observable ≡ before.observable → (IsTrue before.observable → middle.files ≡ before.files) → (fault : LogFault) → OpenCause log before middle fault → HasRefused fault log middle
has_refused log before middle same files logs.Disk cause = tt
has_refused log before middle same files (logs.Full end need) cause = cause
has_refused log before middle same files (logs.Damaged at) cause = λ told.
    let first : IsTrue before.observable = subst IsTrue same told in
    subst (λ (f : Files). IsDamaged (bytes_of f log) at) (sym (files first)) (cause.0 first)

module _ (base : ℕ) (log : File) (before middle now : Seen) (told_same : middle.observable ≡ before.observable) (files : IsTrue before.observable → middle.files ≡ before.files) (later : before.disk_faults ≤ middle.disk_faults) (onward : middle.disk_faults ≤ now.disk_faults) where
  disk_rose : (fault : LogFault) → OpenCause log before middle fault → (fault ≡ logs.Disk) ⊎ Rose middle.disk_faults now.disk_faults → Rose before.disk_faults now.disk_faults
  disk_rose logs.Disk cause refused = let rose : Rose before.disk_faults middle.disk_faults = cause in omega arith
  disk_rose (logs.Full end need) cause refused = absurd cause
  disk_rose (logs.Damaged at) cause (inl is) = absurd cc
  disk_rose (logs.Damaged at) cause (inr rose) = omega arith

  -- where damage was found, no call failed
  steady_then : (fault : LogFault) → OpenCause log before middle fault → HasFoundDamage fault → middle.disk_faults ≡ before.disk_faults
  steady_then logs.Disk cause found = absurd found
  steady_then (logs.Full end need) cause found = absurd found
  steady_then (logs.Damaged at) cause found = cause.1

  pub shape_refused : (fault : LogFault) → OpenCause log before middle fault → (answer : DatabaseFault) → ShapeRefusal base log fault middle now answer → ShapeCause base log before now answer
  shape_refused fault cause Missing refused = absurd refused
  shape_refused fault cause Exists refused = absurd refused
  shape_refused fault cause (Damaged file at) refused =
      (refused.0, λ told. subst (λ (f : Files). IsDamagedShape base (bytes_of f log) at) (files told) (refused.1 (subst IsTrue (sym told_same) told)), refused.2 ∙ steady_then fault cause refused.3)
  shape_refused fault cause Disk refused = disk_rose fault cause refused
  shape_refused fault cause (Full end need) refused = absurd refused
  shape_refused fault cause (Long size limit) refused = absurd refused
  shape_refused fault cause Memory refused = absurd refused
