-- Lines that are written in time.
use Rattle.std.proofs.Common.{◌≡◌, ◌+◌, Bool, true, false, cond, ℕ, suc, List, [], ◌∷◌, ◌++◌, Option, length, map, take, refl, sym, ap, subst, ◌∙◌, append_assoc, add-one}
use Rattle.std.specs.Prelude.{IsTrue}
use Rattle.std.proofs.lemmas.List.{append-nil}
use Rattle.sr_ast.specs.declared.stmt.Passthrough.{Passthrough}
use Rattle.sr_ast.specs.declared.stmt.Stmt.{Stmt}
use Rattle.sr_database_history.specs.Folds.{State}
use Rattle.sr_database_history.specs.Recorded.{Recorded}
use Rattle.sr_site.specs.Seen.{Seen}
use Rattle.sr_site.specs.Streams.{Output}
use Rattle.sr_database.specs.Views.{View, committed}
use Rattle.sr_session_script.specs.Acts.{ScriptAct, commits, end_behind}
use Rattle.sr_session_script.specs.Meaning.{Stepped, goes, stops, done_by}
use Rattle.sr_session_script.specs.Scripts.{ScriptRun as Script, going_on, ran_from, ran}
use Rattle.sr_session_script.specs.Works.{Work, at_beginning}
use Rattle.sr_session.specs.Due.{said_by, said_from, is_due, due, WroteInTime}
use Rattle.sr_session.specs.Inner.Ready.{work_of}
use Rattle.sr_session.specs.Inner.Running.{Under}
use Rattle.sr_session.specs.Said.{IsPrefix}
use Rattle.sr_session.specs.Inner.Steps.{acts_in, IsDoneStep}
use Rattle.sr_session.proofs.Taking.{prefix_behind, prefix_longer}

-- ---- fronts

prefix_on : (one two three : List ℕ) → IsPrefix one two → IsPrefix two three → IsPrefix one three
prefix_on one two three first second = (first.0 ++ second.0, second.1 ∙ ap (λ l. l ++ second.0) first.1 ∙ append_assoc one first.0 second.0)

-- more is written
pub in_time_on : (s : State) (place : ℕ) (statements : List Stmt) (acts : List ScriptAct) (before middle now : List ℕ) → WroteInTime s place statements acts before middle → IsPrefix middle now
    → WroteInTime s place statements acts before now
in_time_on s place statements acts before middle now is more = record {
  done = is.done;
  begun = is.begun;
  wrote = prefix_on (before ++ due [] (said_from place (at_beginning s) (take is.done statements))) middle now is.wrote more;
}

take_firsts : (firsts left : List Stmt) → take (length firsts) (firsts ++ left) ≡ firsts
take_firsts [] left = refl
take_firsts (s ∷ firsts) left = ap (λ l. s ∷ l) (take_firsts firsts left)

take_next : (firsts left : List Stmt) → take (suc (length firsts)) (firsts ++ left) ≡ firsts ++ take 1 left
take_next [] left = refl
take_next (s ∷ firsts) left = ap (λ l. s ∷ l) (take_next firsts left)

take_one_more : (firsts left : List Stmt) → take (length firsts + 1) (firsts ++ left) ≡ firsts ++ take 1 left
take_one_more firsts left = ap (λ n. take n (firsts ++ left)) (add-one (length firsts)) ∙ take_next firsts left

-- ---- one statement further

-- the lines that are due, by what is kept behind it
abbrev pub due_by : Bool → List ℕ → ℕ → Work → List Stmt → List ℕ
due_by b lines place w more = cond b (lines ++ due [] (said_from place w more)) (due lines (said_from place w more))

pub due_step : (old view new : View) (first seen now : Seen) (written taken : Output) (lines lines' : List ℕ) (region region' : Option Passthrough) (all left : List Stmt) (s : Stmt)
    → (under : Under old view first seen written taken lines region all (s ∷ left)) → IsDoneStep (done_by (work_of view region) s) view new seen now lines lines' region'
    → (more : List Stmt) → due [] (said_from old.log.end (at_beginning (committed old)) ((under.firsts ++ s ∷ []) ++ more))
    ≡ under.whole ++ due_by (is_due s lines') lines' new.log.end (work_of new region') more
due_step old view new first seen now written taken lines lines' region region' all left s under took more =
    ap (λ (l : List Stmt). due [] (said_from old.log.end (at_beginning (committed old)) l)) (append_assoc under.firsts (s ∷ []) more)
    ∙ under.due_are (s ∷ more)
    ∙ ap (λ m. under.whole ++ due lines (said_by s view.log.end (λ end after. said_from end after more) m)) took.is
    ∙ ap (λ l. under.whole ++ due_by (is_due s l) l (end_behind view.log.end took.acts) (work_of new region') more) (sym took.came.said)
    ∙ ap (λ place. under.whole ++ due_by (is_due s lines') lines' place (work_of new region') more) (sym (took.came.reached.end took.came.reached.state.0))

-- they are kept
pub due_kept : (whole lines : List ℕ) (place : ℕ) (w : Work) (b : Bool) (more : List Stmt) → b ≡ false → whole ++ due_by b lines place w more ≡ whole ++ due lines (said_from place w more)
due_kept whole lines place w b more is = ap (λ c. whole ++ due_by c lines place w more) is

-- they are written
pub due_written : (whole lines : List ℕ) (place : ℕ) (w : Work) (b : Bool) (more : List Stmt) → b ≡ true
    → whole ++ due_by b lines place w more ≡ (whole ++ lines) ++ due [] (said_from place w more)
due_written whole lines place w b more is = ap (λ c. whole ++ due_by c lines place w more) is ∙ sym (append_assoc whole lines (due [] (said_from place w more)))

-- ---- where it ends

-- the acts of one statement more, with the entry whose commit was refused
pub one_prefix : (before acts : List ScriptAct) (broken : List Recorded) (number : ℕ) (rest : Work → Script) (meant : Stepped) → IsPrefix (acts ++ map commits broken) (acts_in meant)
    → IsPrefix ((before ++ acts) ++ map commits broken) (before ++ (going_on number rest meant).acts)
one_prefix before acts broken number rest (goes done w) prefix =
    subst (λ (l : List ScriptAct). IsPrefix l (before ++ (done ++ (rest w).acts))) (sym (append_assoc before acts (map commits broken)))
    (prefix_behind before (acts ++ map commits broken) (done ++ (rest w).acts) (prefix_longer (acts ++ map commits broken) done (rest w).acts prefix))
one_prefix before acts broken number rest (stops done fault) prefix =
    subst (λ (l : List ScriptAct). IsPrefix l (before ++ done)) (sym (append_assoc before acts (map commits broken))) (prefix_behind before (acts ++ map commits broken) done prefix)

pub timely : (old view : View) (first seen : Seen) (written taken : Output) (lines : List ℕ) (region : Option Passthrough) (all left : List Stmt)
    → (under : Under old view first seen written taken lines region all left) → (acts : List ScriptAct) (now : List ℕ)
    → IsPrefix acts (under.acts ++ (ran_from under.done (work_of view region) (take 1 left)).acts) → IsPrefix taken.taken now → IsTrue written.observable
    → WroteInTime (committed old) old.log.end all acts written.taken now
timely old view first seen written taken lines region all left under acts now prefix more told =
    let begun : take (length under.firsts + 1) all ≡ under.firsts ++ take 1 left = ap (take (length under.firsts + 1)) under.all_are ∙ take_one_more under.firsts left in
    let done : take (length under.firsts) all ≡ under.firsts ++ [] = ap (take (length under.firsts)) under.all_are ∙ take_firsts under.firsts left ∙ sym (append-nil under.firsts) in
    let script = ap (λ (l : List Stmt). (ran (committed old) l).acts) begun ∙ ap (λ (r : Script). r.acts) (under.going (take 1 left)) in
    let dues = ap (λ (l : List Stmt). due [] (said_from old.log.end (at_beginning (committed old)) l)) done ∙ under.due_are [] ∙ append-nil under.whole in
    record {
      done = length under.firsts;
      begun = subst (λ (l : List ScriptAct). IsPrefix acts l) (sym script) prefix;
      wrote = subst (λ (l : List ℕ). IsPrefix l now) (under.wrote told ∙ ap (λ l. written.taken ++ l) (sym dues)) more;
    }
