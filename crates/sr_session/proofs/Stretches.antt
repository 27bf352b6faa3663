-- Statements one after the other.
use Rattle.std.proofs.Common.{◌≡◌, ◌+◌, true, false, ℕ, List, [], ◌∷◌, ◌++◌, Option, None, Result, Ok, Err, length, map, take, codes, refl, sym, ap, subst, ◌∙◌, append_assoc, le_refl, arith}
use Rattle.std.specs.Prelude.{IsTrue, IsErrAnd, ◌≢◌, ◌-◌}
use Rattle.std.specs.List.{AllByRecursion}
use Rattle.std.proofs.lemmas.List.{append-nil}
use Rattle.sr_ast.specs.declared.stmt.Passthrough.{Passthrough}
use Rattle.sr_ast.specs.declared.stmt.Stmt.{Stmt}
use Rattle.sr_ast.specs.NormalForms.{IsNormal}
use Rattle.sr_database_history.specs.Folds.{State}
use Rattle.sr_database_history.specs.Recorded.{Recorded}
use Rattle.sr_logform.specs.declared.change.Change.{Change}
use Rattle.sr_site.specs.Causes.{Rose}
use Rattle.sr_site.specs.Seen.{Seen}
use Rattle.sr_site.specs.Streams.{Output, OutputStays}
use Rattle.sr_database.proofs.Advancing.{none_advanced}
use Rattle.sr_database.specs.Views.{View, committed}
use Rattle.sr_session_script.specs.Acts.{ScriptAct, commits, rolled_back, line, text_from}
use Rattle.sr_session_script.specs.Acts.{end_behind as acts_end}
use Rattle.sr_session_script.specs.Meaning.{Stepped, goes, stops, done_by}
use Rattle.sr_session_script.specs.Scripts.{ScriptRun as Script, End, refused, last_acts, led, going_on, ran_from, ran}
use Rattle.sr_session_script.specs.Works.{Work, at_beginning}
use Rattle.sr_session_script.proofs.Joins.{text_from-append}
use Rattle.sr_session.specs.Due.{said_from, is_due, due, WroteInTime}
use Rattle.sr_session.specs.Ends.{StoreEnd}
use Rattle.sr_session.specs.Inner.Faults.{session_fault}
use Rattle.sr_session.specs.Reached.{Reached}
use Rattle.sr_session.specs.Inner.Ready.{AreUsers, IsReady, work_of}
use Rattle.sr_session.specs.Inner.Running.{Under, Ran, RanStatements}
use Rattle.sr_session.specs.Said.{IsPrefix, WrotePrefix, Said}
use Rattle.sr_session.specs.Inner.Steps.{acts_in, Came, IsDoneStep, Took}
use Rattle.sr_session.specs.declared.fault.SessionFault.{SessionFault}
use Rattle.sr_session.specs.declared.fault.SessionFault.TheVariants.{Sink, Memory}
use Rattle.sr_session.specs.declared.fault.StepFault.{StepFault}
use Rattle.sr_session.specs.declared.fault.StepFault.TheVariants as step
use Rattle.sr_session.proofs.Dispatch.{ready_on}
use Rattle.sr_session.proofs.Commits.{came_none}
use Rattle.sr_session.proofs.Quiet.{came_still}
use Rattle.sr_session.proofs.Reaching.{reached_on}
use Rattle.sr_session.proofs.Taking.{end_behind, end_longer, prefix_behind, prefix_longer, no_broken, prefix_of_store}
use Rattle.sr_session.proofs.Timely.{due_step, due_kept, due_written, one_prefix, timely}

-- ---- what a script does, one statement further

abbrev script_with : End → List ScriptAct → Script
script_with end acts = record { acts = acts; end = end }

led_twice : (acts more : List ScriptAct) (r : Script) → led acts (led more r) ≡ led (acts ++ more) r
led_twice acts more r = ap (script_with r.end) (sym (append_assoc acts more r.acts))

abbrev follow : ℕ → List Stmt → Work → Script
follow count statements w = ran_from count w statements

-- the acts of a script go on behind those of its first statement
first_acts : (number : ℕ) (rest : Work → Script) (meant : Stepped) → (more : List ScriptAct) × ((going_on number rest meant).acts ≡ acts_in meant ++ more)
first_acts number rest (goes acts w) = ((rest w).acts, refl)
first_acts number rest (stops acts fault) = ([], sym (append-nil acts))

-- ---- lines

said_on : (text lines lines' old new more : List ℕ) → Said text lines old new → lines' ≡ lines ++ more → Said (text ++ more) lines' old new
said_on text lines lines' old new more said is = record {
  written = said.written;
  new_is = said.new_is;
  all = ap (λ l. l ++ more) said.all ∙ append_assoc said.written lines more ∙ ap (λ l. said.written ++ l) (sym is);
}

text_on : (place middle : ℕ) (acts more : List ScriptAct) → middle ≡ acts_end place acts → text_from place acts ++ text_from middle more ≡ text_from place (acts ++ more)
text_on place middle acts more is = ap (λ n. text_from place acts ++ text_from n more) is ∙ sym (text_from-append place acts more)

came_said : (old view new : View) (first seen now : Seen) (written taken lines lines' : List ℕ) (acts more : List ScriptAct) (broken : List Recorded) → Reached old view first seen acts [] → Came view new seen now lines lines' more broken
    → Said (text_from old.log.end acts) lines written taken → Said (text_from old.log.end (acts ++ more)) lines' written taken
came_said old view new first seen now written taken lines lines' acts more broken reached came said =
    subst (λ (text : List ℕ). Said text lines' written taken) (text_on old.log.end view.log.end acts more (reached.end reached.state.0))
    (said_on (text_from old.log.end acts) lines lines' written taken (text_from view.log.end more) said came.said)

-- the lines that are kept are written
pub said_flush : (text lines old new now : List ℕ) → Said text lines old new → now ≡ new ++ lines → Said text [] old now
said_flush text lines old new now said is = record {
  written = said.written ++ lines;
  new_is = is ∙ ap (λ l. l ++ lines) said.new_is ∙ append_assoc old said.written lines;
  all = said.all ∙ sym (append-nil (said.written ++ lines));
}

-- a prefix of the lines that are kept is written
pub prefix_said : (text lines old new now : List ℕ) → Said text lines old new → WrotePrefix lines new now → WrotePrefix text old now
prefix_said text lines old new now said wrote = record {
  written = said.written ++ wrote.written;
  prefix = (wrote.prefix.0, said.all ∙ ap (λ l. said.written ++ l) wrote.prefix.1 ∙ sym (append_assoc said.written wrote.written wrote.prefix.0));
  new_is = wrote.new_is ∙ ap (λ l. l ++ wrote.written) said.new_is ∙ append_assoc old said.written wrote.written;
}

pub outputs_on : (one two three : Output) → OutputStays one two → OutputStays two three → OutputStays one three
outputs_on one two three first second = record { observable = second.observable ∙ first.observable; later = omega (arith, first.later, second.later) }

abbrev start_of : State → List Change → Option Passthrough → Work
start_of s p region = record { state = s; pending = p; region = region }

-- ---- one statement

-- what a script does goes on behind it
going_step : (old view new : View) (first seen now : Seen) (written taken : Output) (lines lines' : List ℕ) (region region' : Option Passthrough) (all left : List Stmt) (s : Stmt)
    → (under : Under old view first seen written taken lines region all (s ∷ left)) → (took : IsDoneStep (done_by (work_of view region) s) view new seen now lines lines' region')
    → (more : List Stmt) → ran (committed old) ((under.firsts ++ s ∷ []) ++ more) ≡ led (under.acts ++ took.acts) (ran_from (under.done + 1) (work_of new region') more)
going_step old view new first seen now written taken lines lines' region region' all left s under took more =
    ap (λ (l : List Stmt). ran (committed old) l) (append_assoc under.firsts (s ∷ []) more)
    ∙ under.going (s ∷ more)
    ∙ ap (λ m. led under.acts (going_on (under.done + 1) (follow (under.done + 1) more) m)) took.is
    ∙ led_twice under.acts took.acts (ran_from (under.done + 1) (work_of new region') more)

-- it is done, and its lines are kept
pub under_step : (old view new : View) (first seen now : Seen) (written taken : Output) (lines lines' : List ℕ) (region region' : Option Passthrough) (all left : List Stmt) (s : Stmt)
    → Under old view first seen written taken lines region all (s ∷ left) → Took (done_by (work_of view region) s) view new seen now lines lines' region' (Ok tt) → AreUsers (committed new) region'
    → is_due s lines' ≡ false → Under old new first now written taken lines' region' all left
under_step old view new first seen now written taken lines lines' region region' all left s under took users kept = record {
  done = under.done + 1;
  count = omega (arith, under.count);
  firsts = under.firsts ++ s ∷ [];
  all_are = under.all_are ∙ sym (append_assoc under.firsts (s ∷ []) left);
  acts = under.acts ++ took.acts;
  reached = reached_on old view new first seen now under.acts took.acts [] under.reached took.came.reached;
  ready = ready_on view new seen now took.acts took.came.reached under.ready;
  users = users;
  going = going_step old view new first seen now written taken lines lines' region region' all left s under took;
  whole = under.whole;
  due_are = λ more.
      due_step old view new first seen now written taken lines lines' region region' all left s under took more
      ∙ due_kept under.whole lines' new.log.end (work_of new region') (is_due s lines') more kept;
  wrote = under.wrote;
  said = λ told. came_said old view new first seen now written.taken taken.taken lines lines' under.acts took.acts [] under.reached took.came (under.said told);
  sink = under.sink;
  stays = under.stays;
  normal = under.normal.1;
}

told_on : (before now : Output) → OutputStays before now → IsTrue before.observable → IsTrue now.observable
told_on before now stays told = subst (λ b. IsTrue b) (sym stays.observable) told

-- it is done, and all lines are written
pub under_flush : (old view new : View) (first seen now : Seen) (written taken taken' : Output) (lines lines' : List ℕ) (region region' : Option Passthrough) (all left : List Stmt) (s : Stmt)
    → Under old view first seen written taken lines region all (s ∷ left) → Took (done_by (work_of view region) s) view new seen now lines lines' region' (Ok tt) → AreUsers (committed new) region'
    → is_due s lines' ≡ true → (IsTrue taken.observable → taken'.taken ≡ taken.taken ++ lines') → OutputStays taken taken' → taken'.faults ≡ taken.faults
    → Under old new first now written taken' [] region' all left
under_flush old view new first seen now written taken taken' lines lines' region region' all left s under took users flushed said stays same = record {
  done = under.done + 1;
  count = omega (arith, under.count);
  firsts = under.firsts ++ s ∷ [];
  all_are = under.all_are ∙ sym (append_assoc under.firsts (s ∷ []) left);
  acts = under.acts ++ took.acts;
  reached = reached_on old view new first seen now under.acts took.acts [] under.reached took.came.reached;
  ready = ready_on view new seen now took.acts took.came.reached under.ready;
  users = users;
  going = going_step old view new first seen now written taken lines lines' region region' all left s under took;
  whole = under.whole ++ lines';
  due_are = λ more.
      due_step old view new first seen now written taken lines lines' region region' all left s under took more
      ∙ due_written under.whole lines' new.log.end (work_of new region') (is_due s lines') more flushed;
  wrote = λ told. said (told_on written taken under.stays told) ∙ ap (λ l. l ++ lines') (under.wrote told) ∙ append_assoc written.taken under.whole lines';
  said = λ told.
      said_flush (text_from old.log.end (under.acts ++ took.acts)) lines' written.taken taken.taken taken'.taken
      (came_said old view new first seen now written.taken taken.taken lines lines' under.acts took.acts [] under.reached took.came (under.said told)) (said (told_on written taken under.stays told));
  sink = same ∙ under.sink;
  stays = outputs_on written taken taken' under.stays stays;
  normal = under.normal.1;
}

-- ---- a statement that ends the script

all_of : (l : List ℕ) → IsPrefix l l
all_of l = ([], sym (append-nil l))

abbrev numbered : ℕ → StepFault → Result (Unit {0}) SessionFault
numbered number fault = Err (session_fault number fault)

-- what a script does is what was done, and then what is left does
going_all : (old view : View) (first seen : Seen) (written taken : Output) (lines : List ℕ) (region : Option Passthrough) (all left : List Stmt)
    → (under : Under old view first seen written taken lines region all left) → ran (committed old) all ≡ led under.acts (ran_from under.done (work_of view region) left)
going_all old view first seen written taken lines region all left under = ap (λ (l : List Stmt). ran (committed old) l) under.all_are ∙ under.going left

-- what a script does goes on behind what was done and what its next statement does
whole_acts : (old view : View) (first seen : Seen) (written taken : Output) (lines : List ℕ) (region : Option Passthrough) (all left : List Stmt) (s : Stmt)
    → (under : Under old view first seen written taken lines region all (s ∷ left))
    → (more : List ScriptAct) × ((ran (committed old) all).acts ≡ under.acts ++ (acts_in (done_by (work_of view region) s) ++ more))
whole_acts old view first seen written taken lines region all left s under =
    let rest = first_acts (under.done + 1) (follow (under.done + 1) left) (done_by (work_of view region) s) in
    (rest.0, ap (λ (r : Script). r.acts) (going_all old view first seen written taken lines region all (s ∷ left) under) ∙ ap (λ l. under.acts ++ l) rest.1)

number_is : (done number : ℕ) (s : Stmt) (left : List Stmt) (all : ℕ) → done + length (s ∷ left) ≡ all → number ≡ all - length left → number ≡ done + 1
number_is done number s left all count is = omega (arith, count, is)

-- it ends within a statement, with the lines kept
timely_fault : (old view : View) (first seen : Seen) (written taken : Output) (lines : List ℕ) (region : Option Passthrough) (all left : List Stmt) (s : Stmt)
    → (under : Under old view first seen written taken lines region all (s ∷ left)) → (acts : List ScriptAct) (broken : List Recorded)
    → IsPrefix (acts ++ map commits broken) (acts_in (done_by (work_of view region) s)) → IsTrue written.observable
    → WroteInTime (committed old) old.log.end all ((under.acts ++ acts) ++ map commits broken) written.taken taken.taken
timely_fault old view first seen written taken lines region all left s under acts broken prefix told =
    timely old view first seen written taken lines region all (s ∷ left) under ((under.acts ++ acts) ++ map commits broken) taken.taken
    (one_prefix under.acts acts broken (under.done + 1) (follow (under.done + 1) []) (done_by (work_of view region) s) prefix) (all_of taken.taken) told

pub ran_fault : (old view new : View) (first seen now : Seen) (written taken : Output) (lines lines' : List ℕ) (region region' : Option Passthrough) (all left : List Stmt) (s : Stmt) (number : ℕ) (fault : StepFault)
    → Under old view first seen written taken lines region all (s ∷ left) → Took (done_by (work_of view region) s) view new seen now lines lines' region' (Err fault)
    → number ≡ length all - length left → Ran old new first now written taken lines' all (numbered number fault)
ran_fault old view new first seen now written taken lines lines' region region' all left s number (step.Refused fault) under took is =
    let script : ran (committed old) all ≡ led under.acts (going_on (under.done + 1) (follow (under.done + 1) left) (stops took.acts fault)) =
    going_all old view first seen written taken lines region all (s ∷ left) under ∙ ap (λ m. led under.acts (going_on (under.done + 1) (follow (under.done + 1) left) m)) took.is in
    record {
      acts = under.acts ++ took.acts;
      broken = [];
      reached = reached_on old view new first seen now under.acts took.acts [] under.reached took.came.reached;
      ends = (
        record { acts_are = ap (λ (r : Script). r.acts) script; none = refl },
        ap (λ (r : Script). r.end) script ∙ ap (λ n. refused n fault) (sym (number_is under.done number s left (length all) under.count is)),
      );
      lines = λ told. came_said old view new first seen now written.taken taken.taken lines lines' under.acts took.acts [] under.reached took.came (under.said told);
      in_time =
          timely_fault old view first seen written taken lines region all left s under took.acts []
          (no_broken took.acts (acts_in (done_by (work_of view region) s)) [] refl ([], ap acts_in took.is ∙ sym (append-nil took.acts)));
      sink = under.sink;
      stays = under.stays;
    }
ran_fault old view new first seen now written taken lines lines' region region' all left s number (step.Store fault) under took is =
    let whole = whole_acts old view first seen written taken lines region all left s under in
    record {
      acts = under.acts ++ took.acts;
      broken = took.broken;
      reached = reached_on old view new first seen now under.acts took.acts took.broken under.reached took.came.reached;
      ends = subst (λ (acts : List ScriptAct). StoreEnd new (under.acts ++ took.acts) acts took.broken fault) (sym whole.1)
          (end_behind under.acts took.acts (acts_in (done_by (work_of view region) s) ++ whole.0) new took.broken fault (end_longer took.acts (acts_in (done_by (work_of view region) s)) whole.0 new took.broken fault took.end));
      lines = λ told. came_said old view new first seen now written.taken taken.taken lines lines' under.acts took.acts took.broken under.reached took.came (under.said told);
      in_time =
          timely_fault old view first seen written taken lines region all left s under took.acts took.broken
          (prefix_of_store new took.acts (acts_in (done_by (work_of view region) s)) took.broken fault took.end);
      sink = under.sink;
      stays = under.stays;
    }
ran_fault old view new first seen now written taken lines lines' region region' all left s number step.Memory under took is =
    let whole = whole_acts old view first seen written taken lines region all left s under in
    record {
      acts = under.acts ++ took.acts;
      broken = [];
      reached = reached_on old view new first seen now under.acts took.acts [] under.reached took.came.reached;
      ends = (
        refl,
        subst (λ (acts : List ScriptAct). IsPrefix (under.acts ++ took.acts) acts) (sym whole.1)
            (prefix_behind under.acts took.acts (acts_in (done_by (work_of view region) s) ++ whole.0) (prefix_longer took.acts (acts_in (done_by (work_of view region) s)) whole.0 took.prefix)),
      );
      lines = λ told. came_said old view new first seen now written.taken taken.taken lines lines' under.acts took.acts [] under.reached took.came (under.said told);
      in_time =
          timely_fault old view first seen written taken lines region all left s under took.acts []
          (no_broken took.acts (acts_in (done_by (work_of view region) s)) [] refl took.prefix);
      sink = under.sink;
      stays = under.stays;
    }

-- ---- a sink that fails

pub ran_sink : (old view new : View) (first seen now : Seen) (written taken taken' : Output) (lines lines' kept : List ℕ) (region region' : Option Passthrough) (all left : List Stmt) (s : Stmt)
    → Under old view first seen written taken lines region all (s ∷ left) → Took (done_by (work_of view region) s) view new seen now lines lines' region' (Ok tt)
    → (IsTrue taken.observable → WrotePrefix lines' taken.taken taken'.taken) → OutputStays taken taken' → Rose taken.faults taken'.faults
    → Ran old new first now written taken' kept all (Err Sink)
ran_sink old view new first seen now written taken taken' lines lines' kept region region' all left s under took wrote stays rose =
    let script = ap (λ (l : List Stmt). (ran (committed old) l).acts) (under.all_are ∙ sym (append_assoc under.firsts (s ∷ []) left))
    ∙ ap (λ (r : Script). r.acts) (going_step old view new first seen now written taken lines lines' region region' all left s under took left) in
    let meant = done_by (work_of view region) s in
    record {
      acts = under.acts ++ took.acts;
      broken = [];
      reached = reached_on old view new first seen now under.acts took.acts [] under.reached took.came.reached;
      ends = no_broken (under.acts ++ took.acts) (ran (committed old) all).acts [] refl ((ran_from (under.done + 1) (work_of new region') left).acts, script);
      lines = λ told.
          prefix_said (text_from old.log.end (under.acts ++ took.acts)) lines' written.taken taken.taken taken'.taken
          (came_said old view new first seen now written.taken taken.taken lines lines' under.acts took.acts [] under.reached took.came (under.said told)) (wrote (told_on written taken under.stays told));
      in_time = λ told.
          let more = wrote (told_on written taken under.stays told) in
          timely old view first seen written taken lines region all (s ∷ left) under ((under.acts ++ took.acts) ++ []) taken'.taken
          (one_prefix under.acts took.acts [] (under.done + 1) (follow (under.done + 1) []) meant (no_broken took.acts (acts_in meant) [] refl ([], ap acts_in took.is ∙ sym (append-nil took.acts))))
          (more.written, more.new_is) told;
      sink = subst (λ (count : ℕ). Rose count taken'.faults) under.sink rose;
      stays = outputs_on written taken taken' under.stays stays;
    }

-- with the answer that tells it
pub stopped_by_sink : (old view : View) (first seen : Seen) (written taken : Output) (kept : List ℕ) (region : Option Passthrough) (all : List Stmt) (told : SessionFault) (result : Result (Unit {0}) SessionFault)
    → IsErrAnd result (λ e. e ≡ told) → told ≡ Sink → Ran old view first seen written taken kept all (Err Sink) → RanStatements old view first seen written taken kept region all result
stopped_by_sink old view first seen written taken kept region all told (Ok done) is sink ran = absurd is
stopped_by_sink old view first seen written taken kept region all told (Err fault) is sink ran =
    subst (λ (f : SessionFault). Ran old view first seen written taken kept all (Err f)) (sym (is ∙ sink)) ran

-- ---- the script's end

-- it ends with what was done
timely_here : (old view : View) (first seen : Seen) (written taken : Output) (lines : List ℕ) (region : Option Passthrough) (all left : List Stmt)
    → (under : Under old view first seen written taken lines region all left) → IsTrue written.observable
    → WroteInTime (committed old) old.log.end all (under.acts ++ []) written.taken taken.taken
timely_here old view first seen written taken lines region all left under =
    let acts = (ran_from under.done (work_of view region) (take 1 left)).acts in
    timely old view first seen written taken lines region all left under (under.acts ++ []) taken.taken (prefix_behind under.acts [] acts (acts, refl)) (all_of taken.taken)

-- nothing is open
pub ran_closed : (old view : View) (first seen : Seen) (written taken : Output) (lines : List ℕ) (region : Option Passthrough) (all : List Stmt)
    → Under old view first seen written taken lines region all [] → view.pending ≡ [] → Ran old view first seen written taken lines all (Ok tt)
ran_closed old view first seen written taken lines region all under none = record {
  acts = under.acts;
  broken = [];
  reached = under.reached;
  ends = (
    record { acts_are = ap (λ (r : Script). r.acts) (going_all old view first seen written taken lines region all [] under) ∙ ap (λ (p : List Change). under.acts ++ last_acts p) none ∙ append-nil under.acts; none = refl },
    ap (λ (r : Script). r.end) (going_all old view first seen written taken lines region all [] under),
    refl,
  );
  lines = under.said;
  in_time = timely_here old view first seen written taken lines region all [] under;
  sink = under.sink;
  stays = under.stays;
}

last_open : (p : List Change) → p ≢ [] → last_acts p ≡ rolled_back ∷ []
last_open [] some = absurd (some refl)
last_open (c ∷ changes) some = refl

-- a transaction is open: it is rolled back
pub ran_open : (old view : View) (first seen : Seen) (written taken : Output) (lines lines' : List ℕ) (region : Option Passthrough) (all : List Stmt)
    → Under old view first seen written taken lines region all [] → view.pending ≢ [] → lines' ≡ lines ++ line (codes "rolled back") → Ran old view first seen written taken lines' all (Ok tt)
ran_open old view first seen written taken lines lines' region all under some said =
    let came = came_still view view seen lines lines' (rolled_back ∷ []) refl refl refl under.ready.usable (none_advanced view) said in
    record {
      acts = under.acts ++ rolled_back ∷ [];
      broken = [];
      reached = reached_on old view view first seen seen under.acts (rolled_back ∷ []) [] under.reached came.reached;
      ends = (
        record { acts_are = ap (λ (r : Script). r.acts) (going_all old view first seen written taken lines region all [] under) ∙ ap (λ l. under.acts ++ l) (last_open view.pending some); none = refl },
        ap (λ (r : Script). r.end) (going_all old view first seen written taken lines region all [] under),
        refl,
      );
      lines = λ told. came_said old view view first seen seen written.taken taken.taken lines lines' under.acts (rolled_back ∷ []) [] under.reached came (under.said told);
      in_time = timely old view first seen written taken lines region all [] under ((under.acts ++ rolled_back ∷ []) ++ []) taken.taken
          ([], ap (λ l. under.acts ++ l) (last_open view.pending some) ∙ sym (append-nil ((under.acts ++ rolled_back ∷ []) ++ []) ∙ append-nil (under.acts ++ rolled_back ∷ []))) (all_of taken.taken);
      sink = under.sink;
      stays = under.stays;
    }

-- there is no memory for that line
pub ran_short : (old view : View) (first seen : Seen) (written taken : Output) (lines : List ℕ) (region : Option Passthrough) (all left : List Stmt)
    → Under old view first seen written taken lines region all left → Ran old view first seen written taken lines all (Err Memory)
ran_short old view first seen written taken lines region all left under = record {
  acts = under.acts;
  broken = [];
  reached = under.reached;
  ends = (refl, ((ran_from under.done (work_of view region) left).acts, ap (λ (r : Script). r.acts) (going_all old view first seen written taken lines region all left under)));
  lines = under.said;
  in_time = timely_here old view first seen written taken lines region all left under;
  sink = under.sink;
  stays = under.stays;
}

-- ---- the script's beginning

start_is : (view : View) (region : Option Passthrough) → view.pending ≡ [] → region ≡ None → at_beginning (committed view) ≡ work_of view region
start_is view region none outside =
    ap (λ (p : List Change). start_of (committed view) p None) (sym none) ∙ ap (λ (r : Option Passthrough). start_of (committed view) view.pending r) (sym outside)

pub under_start : (view : View) (seen : Seen) (written : Output) (lines : List ℕ) (region : Option Passthrough) (all : List Stmt) → IsReady view seen → view.pending ≡ [] → region ≡ None → lines ≡ []
    → AllByRecursion IsNormal all → Under view view seen seen written written lines region all all
under_start view seen written lines region all ready none outside empty normal = record {
  done = 0;
  count = omega arith;
  firsts = [];
  all_are = refl;
  acts = [];
  reached = (came_none view seen [] [] ready.usable refl).reached;
  ready = ready;
  users = subst (λ (r : Option Passthrough). AreUsers (committed view) r) (sym outside) tt;
  going = λ more. ap (λ (w : Work). ran_from 0 w more) (start_is view region none outside);
  whole = [];
  due_are = λ more.
      ap (λ (w : Work). due [] (said_from view.log.end w more)) (start_is view region none outside) ∙ ap (λ l. due l (said_from view.log.end (work_of view region) more)) (sym empty);
  wrote = λ told. sym (append-nil written.taken);
  said = λ told. record { written = []; new_is = sym (append-nil written.taken); all = sym empty };
  sink = refl;
  stays = record { observable = refl; later = le_refl written.faults };
  normal = normal;
}
