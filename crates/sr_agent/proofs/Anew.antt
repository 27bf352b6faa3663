-- What a run promises, from its passes and from the restart before them.
use Rattle.std.proofs.Common.{◌≡◌, ℕ, Bool, true, false, List, [], ◌∷◌, ◌++◌, Result, Ok, Err, refl, sym, subst, inl, inr, arith}
use Rattle.std.specs.Prelude.{IsTrue, IfOk, OnOk}
use Rattle.sr_book.specs.Entries.{Name}
use Rattle.sr_database.specs.InForce.{HasLogInForce}
use Rattle.sr_database.specs.Views.{View}
use Rattle.sr_database_history.specs.Recorded.{Recorded}
use Rattle.sr_site.specs.Seen.{Seen}
use Rattle.sr_site.specs.Streams.{Output}
use Rattle.sr_agent.specs.Agents.{DidWhere, DidAnew, RanAgent, RestartedAndDid}
use Rattle.sr_agent.specs.Lines.{Line, alarms, restarted}
use Rattle.sr_agent.specs.Inner.Restarting.{RestartTold, RunUnbegun, RanPasses}
use Rattle.sr_agent.specs.declared.fault.AgentFault.{AgentFault}
use Rattle.sr_agent.specs.declared.options.Options.{Options}
use Rattle.sr_agent.proofs.BegunAt.{of_disk}
use Rattle.sr_agent.proofs.Written.{alarms_on, ended_after, has_told}

-- ---- without a restart

pub ran_alone : (old new : View) (before now : Seen) (written written' : Output) (options : Options) (result : Result ℕ AgentFault) → options.restart ≡ false → RanPasses old new before now written written' options result
    → RanAgent old new before now written written' options result
ran_alone old new before now written written' options result off ran = record {
  lines = ran.lines;
  ended = ran.ended;
  count = ran.count;
  in_force = ran.in_force;
  did = λ told publisher es its.
      subst (λ (b : Bool). DidWhere b old new before now written written' publisher es options ran.lines result) (sym off) (ran.did told publisher es its);
}

-- ---- behind one

anew : (result : Result ℕ AgentFault) (old new : View) (before now : Seen) (written written' : Output) (publisher : Name) (es : List Recorded) (options : Options) (lines : List Line)
    → RestartedAndDid old new before now written written' publisher es options lines result → DidAnew old new before now written written' publisher es options lines result
anew (Ok count) old new before now written written' publisher es options lines did = did
anew (Err fault) old new before now written written' publisher es options lines did = inl did

count_anew : (result : Result ℕ AgentFault) (base : ℕ) (lines : List Line) → IfOk result (λ n. n ≡ alarms lines) → IfOk result (λ n. n ≡ alarms ((restarted base ∷ []) ++ lines))
count_anew (Ok count) base lines is =
    let none : alarms (restarted base ∷ []) ≡ 0 = refl in
    omega (arith, is, none, alarms_on (restarted base ∷ []) lines)
count_anew (Err fault) base lines is = tt

in_force_anew : (result : Result ℕ AgentFault) (old between new : View) (before middle now : Seen) → (IsTrue before.observable → IsTrue middle.observable) → (IsTrue middle.observable → HasLogInForce between middle)
    → OnOk result (IsTrue middle.observable → HasLogInForce between middle → HasLogInForce new now) → OnOk result (IsTrue before.observable → HasLogInForce old before → HasLogInForce new now)
in_force_anew (Ok count) old between new before middle now then stands in_force = λ told has. in_force (then told) (stands (then told))
in_force_anew (Err fault) old between new before middle now then stands in_force = tt

pub ran_anew : (old between new : View) (before middle now : Seen) (written said written' : Output) (options : Options) (result : Result ℕ AgentFault) → options.restart ≡ true
    → RestartTold old between before middle written said → RanPasses between new middle now said written' options result → RanAgent old new before now written written' options result
ran_anew old between new before middle now written said written' options result on restart ran =
    let restarts = restart.restarts in
    let then : (IsTrue before.observable → IsTrue middle.observable) = λ told. subst (λ (b : Bool). IsTrue b) (sym restarts.stays.observable) told in
    let first : List Line = restarted between.log.base ∷ [] in
    record {
      lines = first ++ ran.lines;
      ended = ended_after result new before middle now written said written' first ran.lines restart.told (record { disk = restarts.steady; mail = restarts.stays.mail_faults }) (of_disk before middle restarts.stays) ran.ended;
      count = count_anew result between.log.base ran.lines ran.count;
      in_force = in_force_anew result old between new before middle now then restarts.can.stands ran.in_force;
      did = λ told publisher es its.
          let restarted_it = restarts.did told publisher es its in
          subst (λ (b : Bool). DidWhere b old new before now written written' publisher es options (first ++ ran.lines) result) (sym on)
          (anew result old new before now written written' publisher es options (first ++ ran.lines) (record {
            between = between;
            middle = middle;
            said = said;
            restart = restarted_it;
            told = has_told first written said restart.told;
            stays = ran.ended.site;
            rest = ran.lines;
            lines_are = refl;
            did = ran.did (then told) publisher es restarted_it.database;
          }));
    }

pub ran_unbegun : (old new : View) (before now : Seen) (written written' : Output) (options : Options) (fault : AgentFault) → options.restart ≡ true → RunUnbegun old new before now written written' fault
    → RanAgent old new before now written written' options (Err fault)
ran_unbegun old new before now written written' options fault on unbegun = record {
  lines = unbegun.lines;
  ended = unbegun.ended;
  count = tt;
  in_force = tt;
  did = λ told publisher es its.
      subst (λ (b : Bool). DidWhere b old new before now written written' publisher es options unbegun.lines (Err fault)) (sym on) (inr (unbegun.did told publisher es its));
}
