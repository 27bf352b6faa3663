-- What a log is that was read, and what damage says of it.
use Rattle.std.proofs.Common.{◌≡◌, ℕ, ◌∙◌, List, true, Result, Ok, Err, inl, refl, sym, subst, arith}
use Rattle.std.specs.Prelude.{IfOk, IfErr, IsErr, IsTrue}
use Rattle.sr_site.specs.declared.file.File.{File}
use Rattle.sr_site.specs.Files.{Files, bytes_of}
use Rattle.sr_site.specs.Seen.{Seen}
use Rattle.sr_logfile.specs.declared.fault.LogFault.{LogFault}
use Rattle.sr_logfile.specs.declared.fault.LogFault.TheVariants.{Disk, Full, Damaged}
use Rattle.sr_logfile.specs.Damage.{IsDamaged}
use Rattle.sr_logfile.specs.Inner.Faults.{HeaderCause, IsDisk, IsDiskOrDamaged, OpenCause}
use Rattle.sr_logfile.specs.Log.{Log}
use Rattle.sr_logfile.specs.Inner.Logs.{IsLog, HasLog}
use Rattle.sr_logfile.specs.Records.{Spells}
use Rattle.sr_logfile.proofs.Uniqueness.{one_spelling, one_damage, never_both}

module _ (file : File) (before now : Seen) (told : IsTrue before.observable) (same : now.files ≡ before.files) where
  -- the log's file is the one that was read
  spells_of : (log : Log) → log.file ≡ file → (has : HasLog log now.files) → Spells log.base has.bodies (bytes_of before.files file)
  spells_of log is has = subst (λ (f : File). Spells log.base has.bodies (bytes_of before.files f)) is (subst (λ (f : Files). Spells log.base has.bodies (bytes_of f log.file)) same has.is_log.spells)

  pub spelled_log : (result : Result Log LogFault) → IfOk result (λ log. HasLog log now.files) → IfOk result (λ log. (log.file ≡ file) × (log.usable ≡ true)) → IfErr result (OpenCause file before now)
      → (base : ℕ) (bodies : List (List ℕ)) → Spells base bodies (bytes_of before.files file) → IfOk result (λ log. (log.base ≡ base) × IsLog log bodies now.files) × IfErr result IsDisk
  spelled_log (Ok log) has is cause base bodies spells =
      let both = one_spelling (bytes_of before.files file) log.base base has.bodies bodies (spells_of log is.0 has) spells in
      ((both.0, subst (λ (l : List (List ℕ)). IsLog log l now.files) both.1 has.is_log), tt)
  spelled_log (Err Disk) has is cause base bodies spells = (tt, tt)
  spelled_log (Err (Full end need)) has is cause base bodies spells = absurd cause
  spelled_log (Err (Damaged at)) has is cause base bodies spells = absurd (never_both (bytes_of before.files file) base at bodies spells (cause.0 told))

  pub damaged_log : (result : Result Log LogFault) → IfOk result (λ log. HasLog log now.files) → IfOk result (λ log. (log.file ≡ file) × (log.usable ≡ true)) → IfErr result (OpenCause file before now)
      → (place : ℕ) → IsDamaged (bytes_of before.files file) place → IsErr result × IfErr result (IsDiskOrDamaged place)
  damaged_log (Ok log) has is cause place damage = absurd (never_both (bytes_of before.files file) log.base place has.bodies (spells_of log is.0 has) damage)
  damaged_log (Err Disk) has is cause place damage = (refl, tt)
  damaged_log (Err (Full end need)) has is cause place damage = absurd cause
  damaged_log (Err (Damaged at)) has is cause place damage = (refl, one_damage (bytes_of before.files file) at place (cause.0 told) damage)

-- a header that there is not is damage at 0
pub of_header : (file : File) (before now : Seen) (fault : LogFault) → HeaderCause file before now fault → OpenCause file before now fault
of_header file before now Disk cause = cause
of_header file before now (Full end need) cause = absurd cause
of_header file before now (Damaged at) cause = (λ told. inl (cause.1 told, cause.0), cause.2)

-- a cause that was told of a later moment, where nothing differed
pub cause_before : (file : File) (before middle now : Seen) (fault : LogFault) → middle.observable ≡ before.observable → (IsTrue before.observable → middle.files ≡ before.files) → middle.disk_faults ≡ before.disk_faults → OpenCause file middle now fault → OpenCause file before now fault
cause_before file before middle now Disk told files steady cause = omega arith
cause_before file before middle now (Full end need) told files steady cause = absurd cause
cause_before file before middle now (Damaged at) told files steady cause = (λ is. subst (λ (f : Files). IsDamaged (bytes_of f file) at) (files is) (cause.0 (subst IsTrue (sym told) is)), cause.1 ∙ steady)

pub IfErr-from : {A E : Type 0} (r : Result A E) (P : E → Type 0) (fault other : E) → r ≡ Err fault → fault ≡ other → P other → IfErr r P
IfErr-from {A} {E} r P fault other is same holds = subst (λ (s : Result A E). IfErr s P) (sym is) (subst P (sym same) holds)
