-- Why no database is made, from why the site is not attached, and why no files are.
use Rattle.std.proofs.Common.{◌≡◌, true, false, List, [], ℕ, Result, Ok, Err, IfErr, sym, ap, subst, ◌∙◌}
use Rattle.std.specs.Prelude.{IsErrAnd}
use Rattle.sr_database_files.specs.Inner.Refusing.{CreateCause}
use Rattle.sr_database_files.specs.declared.fault.DatabaseFault.{DatabaseFault}
use Rattle.sr_database_files.specs.declared.fault.DatabaseFault.TheVariants as store
use Rattle.sr_site.specs.Causes.{Rose}
use Rattle.sr_site.specs.Files.{Files}
use Rattle.sr_site.specs.Seen.{Seen}
use Rattle.dbremote_command.specs.Inner.Attaching.{AttachCause, Attaches}
use Rattle.dbremote_command.specs.Making.{IsUnmade, StoreCause}
use Rattle.dbremote_command.proofs.Opened.{told_on}

-- the site was not attached
pub unmade_refused : (name : List ℕ) (before now : Seen) (fault : DatabaseFault) → Attaches name [] false before now → AttachCause before now fault → StoreCause name before now fault
unmade_refused name before now store.Missing attaches cause = cause
unmade_refused name before now store.Exists attaches cause = absurd cause
unmade_refused name before now (store.Damaged file at) attaches cause = cause
unmade_refused name before now store.Disk attaches cause = cause
unmade_refused name before now (store.Full end need) attaches cause = cause
unmade_refused name before now (store.Long size limit) attaches cause = cause
unmade_refused name before now store.Memory attaches cause = record { done = false; happened = attaches.happened; files = attaches.files; steady = cause }

-- it was attached, and nothing happened since
pub unmade_still : (name : List ℕ) (before now : Seen) → Attaches name [] true before now → now.disk_faults ≡ before.disk_faults → IsUnmade name before now
unmade_still name before now attaches steady = record { done = true; happened = attaches.happened; files = attaches.files; steady = steady }

-- it was attached, and no files were made
pub unmade_on : (name : List ℕ) (before middle now : Seen) (fault : DatabaseFault) → Attaches name [] true before middle → middle.disk_faults ≡ before.disk_faults → CreateCause middle now fault
    → StoreCause name before now fault
unmade_on name before middle now store.Missing attaches steady cause = cause
unmade_on name before middle now store.Exists attaches steady cause = (
  λ told.
      let left = cause.0 (told_on before middle attaches.stays told) in
      (λ none. left.there (ap (λ (f : Files). f.root) (attaches.files told) ∙ none), left.files ∙ attaches.files told),
  cause.1 ∙ steady,
)
unmade_on name before middle now (store.Damaged file at) attaches steady cause = cause
unmade_on name before middle now store.Disk attaches steady cause = subst (λ (n : ℕ). Rose n now.disk_faults) steady cause
unmade_on name before middle now (store.Full end need) attaches steady cause = cause
unmade_on name before middle now (store.Long size limit) attaches steady cause = cause
unmade_on name before middle now store.Memory attaches steady cause = subst (λ (s : Seen). IsUnmade name before s) (sym cause) (unmade_still name before middle attaches steady)

pub caused : {T : Type 0} (P : DatabaseFault → Type 0) (fault : DatabaseFault) (result : Result T DatabaseFault) → IsErrAnd result (λ f. f ≡ fault) → P fault → IfErr result P
caused P fault (Ok x) is p = tt
caused P fault (Err f) is p = subst P (sym is) p
