-- What a database that was kept open is on the attached site, and what is kept of it after a run.
use Rattle.std.proofs.Common.{◌≡◌, true, false, List, [], ℕ, Option, Some, refl, sym, subst, ◌∙◌}
use Rattle.std.specs.Prelude.{IfSome, IsTrue, Ok}
use Rattle.sr_agent.specs.Agents.{RanAgent}
use Rattle.sr_agent.specs.declared.options.Options.{Options}
use Rattle.sr_ast.specs.declared.stmt.Stmt.{Stmt}
use Rattle.sr_database.specs.Inner.Causes.{OpenCause}
use Rattle.sr_database.specs.InForce.{HasLogInForce}
use Rattle.sr_database.specs.Views.{View}
use Rattle.sr_database.proofs.Advancing.{none_advanced}
use Rattle.sr_database.proofs.InForce.{in_force_still}
use Rattle.sr_database_files.specs.declared.fault.DatabaseFault.{DatabaseFault}
use Rattle.sr_database_files.specs.declared.fault.DatabaseFault.TheVariants as store
use Rattle.sr_database_history.specs.Recorded.{Recorded}
use Rattle.sr_database.specs.Broken.{IsBroken}
use Rattle.sr_session.specs.Runs.{RanScript}
use Rattle.sr_site.specs.Causes.{Rose}
use Rattle.sr_site.specs.Files.{Files}
use Rattle.sr_site.specs.Seen.{Seen}
use Rattle.sr_site.specs.Streams.{Output}
use Rattle.sr_database_files.specs.Damage.{IsMissing, IsDamagedAt}
use Rattle.dbremote_command.specs.Inner.Attaching.{AttachCause, Attaches}
use Rattle.dbremote_command.specs.Inner.Kept.{IsKept}
use Rattle.dbremote_command.specs.Running.{IsOpened, OpenedCause}
use Rattle.dbremote_command.proofs.Opened.{attached_still, history_of, images_before, told_on, untouched_still}

-- ---- the attached site

-- why a site is not attached is why a database is not opened
pub not_attached : (name mail : List ℕ) (before now : Seen) → Attaches name mail false before now → (fault : DatabaseFault) → AttachCause before now fault → OpenedCause before now fault
not_attached name mail before now attaches store.Missing cause = absurd cause
not_attached name mail before now attaches store.Exists cause = cause
not_attached name mail before now attaches (store.Damaged file at) cause = absurd cause
not_attached name mail before now attaches store.Disk cause = cause
not_attached name mail before now attaches (store.Full end need) cause = cause
not_attached name mail before now attaches (store.Long size limit) cause = cause
not_attached name mail before now attaches store.Memory cause = cause

-- why no database is opened on the attached site is why it is not from before
pub not_opened : (name mail : List ℕ) (before middle now : Seen) (fault : DatabaseFault) → Attaches name mail true before middle → middle.disk_faults ≡ before.disk_faults → OpenCause middle now fault → OpenedCause before now fault
not_opened name mail before middle now store.Missing attaches steady cause = (λ told. subst IsMissing (attaches.files told) (cause.0 (told_on before middle attaches.stays told)), cause.1 ∙ steady)
not_opened name mail before middle now store.Exists attaches steady cause = cause
not_opened name mail before middle now (store.Damaged file at) attaches steady cause = (λ told. subst (λ (f : Files). IsDamagedAt file at f) (attaches.files told) (cause.0 (told_on before middle attaches.stays told)), cause.1 ∙ steady)
not_opened name mail before middle now store.Disk attaches steady cause = subst (λ n. Rose n now.disk_faults) steady cause
not_opened name mail before middle now (store.Full end need) attaches steady cause = cause
not_opened name mail before middle now (store.Long size limit) attaches steady cause = cause
not_opened name mail before middle now store.Memory attaches steady cause = cause ∙ steady

module _ (name mail : List ℕ) (before now : Seen) (view : View) (attaches : Attaches name mail true before now) where
  -- its log is still in force
  force_still : IsTrue before.observable → HasLogInForce view before → HasLogInForce view now
  force_still told has = in_force_still view view before now refl (none_advanced view) (attaches.files told) (images_before name mail true before now told attaches) has

  -- the database that was open is that of each history for which the files stand
  pub opened_still : IsKept view before → now.disk_faults ≡ before.disk_faults → IsOpened name mail view before now
  opened_still kept steady = record {
    attached = attached_still name mail before now attaches;
    steady = steady;
    no_mail = attaches.stays;
    history = λ told. history_of before now view (attaches.files told) (force_still told kept.has);
    untouched = untouched_still name mail true before now attaches;
  }

  pub has_still : IsKept view before → IsTrue now.observable → HasLogInForce view now
  has_still kept told = force_still (sym attaches.stays.observable ∙ told) kept.has

-- ---- after a run that no fault ended

-- what is put back is kept
pub kept_in : (kept : Option View) (view : View) (seen : Seen) → kept ≡ Some view → (IsTrue seen.observable → IsKept view seen) → IsTrue seen.observable → IfSome kept (λ db. IsKept db seen)
kept_in kept view seen is has told = subst (λ (k : Option View). IfSome k (λ db. IsKept db seen)) (sym is) (has told)

pub still_kept : (view : View) (seen : Seen) → (view.log.usable ≡ true) × (view.pending ≡ []) → (IsTrue seen.observable → HasLogInForce view seen) → IsTrue seen.observable → IsKept view seen
still_kept view seen ready has told = record { usable = ready.0; pending = ready.1; has = has told }

pub script_kept : (old new : View) (before now : Seen) (written written' : Output) (statements : List Stmt) (count : ℕ) → RanScript old new before now written written' statements (Ok count)
    → (IsTrue before.observable → HasLogInForce old before) → IsTrue now.observable → IsKept new now
script_kept old new before now written written' statements count ran has told =
    let usable : new.log.usable ≡ true = (subst (λ (l : List Recorded). IsBroken l new before now) ran.ends.0.none ran.reached.state).0 in
    let told_before : IsTrue before.observable = sym ran.reached.stays.observable ∙ told in
    record { usable = usable; pending = ran.pending; has = ran.reached.in_force told_before usable (has told_before) }

pub agent_kept : (old new : View) (before now : Seen) (written written' : Output) (options : Options) (count : ℕ) → RanAgent old new before now written written' options (Ok count)
    → (IsTrue before.observable → HasLogInForce old before) → IsTrue now.observable → IsKept new now
agent_kept old new before now written written' options count ran has told =
    let told_before : IsTrue before.observable = sym ran.ended.site.observable ∙ told in
    record { usable = ran.ended.usable; pending = ran.ended.pending; has = ran.in_force told_before (has told_before) }
