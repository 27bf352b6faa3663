-- A step behind the commit of the open transaction.
use Rattle.std.proofs.Common.{◌≡◌, ℕ, List, [], Option, Result, Ok, Err, sym, ap, subst}
use Rattle.std.specs.Prelude.{IsTrue, OnOk}
use Rattle.sr_ast.specs.declared.stmt.Passthrough.{Passthrough}
use Rattle.sr_database_history.specs.Folds.{State, state_from}
use Rattle.sr_site.specs.Seen.{Seen}
use Rattle.sr_database.specs.Inner.Sound.{IsSound}
use Rattle.sr_database.specs.Views.{View, committed}
use Rattle.sr_session_script.specs.Acts.{ScriptAct, entries_of}
use Rattle.sr_session_script.specs.Meaning.{Stepped, goes, after, closing, once_closed}
use Rattle.sr_session_script.specs.Works.{Work, closed}
use Rattle.sr_session.specs.Reached.{Reached}
use Rattle.sr_session.specs.Inner.Ready.{AreUsers, IsReady, work_of}
use Rattle.sr_session.specs.Inner.Steps.{IsDoneStep, Took}
use Rattle.sr_session.specs.declared.fault.StepFault.{StepFault}
use Rattle.sr_session.proofs.Regions.{users_on}
use Rattle.sr_database.proofs.Advancing.{advanced_sound}
use Rattle.sr_session.proofs.Taking.{took_after, took_prefix}

-- ---- what a stretch without a refusal leaves

pub ready_on : (old new : View) (first second : Seen) (acts : List ScriptAct) → Reached old new first second acts [] → IsReady old first → IsReady new second
ready_on old new first second acts reached ready = record {
  usable = reached.state.0;
  sound = advanced_sound old new (entries_of acts) (reached.value reached.state.0) ready.sound;
  stands = λ told. let before : IsTrue first.observable = subst (λ b. IsTrue b) reached.stays.observable told in reached.in_force before reached.state.0 (ready.stands before);
}

pub committed_on : (old new : View) (first second : Seen) (acts : List ScriptAct) → Reached old new first second acts [] → committed new ≡ state_from (committed old) (entries_of acts)
committed_on old new first second acts reached = (reached.value reached.state.0).state

pub users_kept : (old new : View) (first second : Seen) (acts : List ScriptAct) (region : Option Passthrough) → Reached old new first second acts []
    → AreUsers (committed old) region → AreUsers (committed new) region
users_kept old new first second acts region reached users =
    subst (λ (s : State). AreUsers s region) (sym (committed_on old new first second acts reached)) (users_on (committed old) (entries_of acts) region users)

-- ---- the open transaction is committed

same_acts : (acts more : List ScriptAct) (w v : Work) → goes acts w ≡ goes more v → acts ≡ more
same_acts acts more w v is = cc

same_work : (acts more : List ScriptAct) (w v : Work) → goes acts w ≡ goes more v → w ≡ v
same_work acts more w v is = cc

pub closed_pending : (old middle : View) (first second : Seen) (l0 l1 : List ℕ) (region : Option Passthrough)
    → IsDoneStep (goes (closing old.pending) (closed (work_of old region))) old middle first second l0 l1 region → middle.pending ≡ []
closed_pending old middle first second l0 l1 region done =
    sym (ap (λ (w : Work). w.pending) (same_work (closing old.pending) done.acts (closed (work_of old region)) (work_of middle region) done.is))

-- a step behind it
pub closed_then : (step : Work → Stepped) (old middle new : View) (first second third : Seen) (l0 l1 l2 : List ℕ) (region later : Option Passthrough) (result : Result (Unit {0}) StepFault)
    → IsDoneStep (goes (closing old.pending) (closed (work_of old region))) old middle first second l0 l1 region
    → Took (step (work_of middle region)) middle new second third l1 l2 later result
    → Took (once_closed (work_of old region) step) old new first third l0 l2 later result
closed_then step old middle new first second third l0 l1 l2 region later result done took =
    let acts_are : done.acts ≡ closing old.pending = sym (same_acts (closing old.pending) done.acts (closed (work_of old region)) (work_of middle region) done.is) in
    let work_is : work_of middle region ≡ closed (work_of old region) = sym (same_work (closing old.pending) done.acts (closed (work_of old region)) (work_of middle region) done.is) in
    subst (λ (w : Work). Took (after (closing old.pending) (step w)) old new first third l0 l2 later result) work_is
    (subst (λ (acts : List ScriptAct). Took (after acts (step (work_of middle region))) old new first third l0 l2 later result) acts_are
    (took_after done.acts (step (work_of middle region)) old middle new first second third l0 l1 l2 later result done.came took))

-- it was not committed
pub not_closed : (step : Work → Stepped) (old new : View) (first second : Seen) (l0 l1 : List ℕ) (region later : Option Passthrough) (fault : StepFault)
    → Took (goes (closing old.pending) (closed (work_of old region))) old new first second l0 l1 later (Err fault)
    → Took (once_closed (work_of old region) step) old new first second l0 l1 later (Err fault)
not_closed step old new first second l0 l1 region later fault took =
    took_prefix (closing old.pending) (closed (work_of old region)) (step (closed (work_of old region))) old new first second l0 l1 later fault took

-- what the commit leaves
pub closed_ready : (old middle : View) (first second : Seen) (l0 l1 : List ℕ) (region : Option Passthrough)
    → IsDoneStep (goes (closing old.pending) (closed (work_of old region))) old middle first second l0 l1 region → IsReady old first → IsReady middle second
closed_ready old middle first second l0 l1 region done ready = ready_on old middle first second done.acts done.came.reached ready

pub closed_users : (old middle : View) (first second : Seen) (l0 l1 : List ℕ) (region : Option Passthrough)
    → IsDoneStep (goes (closing old.pending) (closed (work_of old region))) old middle first second l0 l1 region → IsSound old → AreUsers (committed old) region → AreUsers (committed middle) region
closed_users old middle first second l0 l1 region done sound users = users_kept old middle first second done.acts region done.came.reached users

-- a step that is done leaves the users of the region behind it granted, where they were
pub users_behind : (meant : Stepped) (old new : View) (first second : Seen) (lines lines' : List ℕ) (region : Option Passthrough) (result : Result (Unit {0}) StepFault)
    → Took meant old new first second lines lines' region result → IsSound old → AreUsers (committed old) region → OnOk result (AreUsers (committed new) region)
users_behind meant old new first second lines lines' region (Ok done) took sound users = users_kept old new first second took.acts region took.came.reached users
users_behind meant old new first second lines lines' region (Err fault) took sound users = tt

pub in_any : {A : Type 0} (result : Result (Unit {0}) StepFault) → A → OnOk result A
in_any (Ok done) holds = holds
in_any (Err fault) holds = tt
