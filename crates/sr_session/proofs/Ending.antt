-- A script's end: what is pending is rolled back, and the last lines are written.
use Rattle.std.proofs.Common.{◌≡◌, true, ℕ, List, [], ◌∷◌, ◌++◌, Result, Ok, Err, length, map, take, refl, sym, ap, subst, ◌∙◌, le_refl}
use Rattle.std.specs.Prelude.{IsTrue}
use Rattle.std.proofs.lemmas.List.{append-nil}
use Rattle.sr_ast.specs.declared.stmt.Stmt.{Stmt}
use Rattle.sr_database_history.specs.Recorded.{Recorded, entry_of}
use Rattle.sr_logfile.specs.Log.{Log}
use Rattle.sr_site.specs.Causes.{Rose}
use Rattle.sr_site.specs.Seen.{Seen}
use Rattle.sr_site.specs.Streams.{Output, OutputStays}
use Rattle.sr_database.specs.Broken.{IsBroken}
use Rattle.sr_database.specs.Causes.{IsTooFar}
use Rattle.sr_database.specs.Advances.{Advances}
use Rattle.sr_database.proofs.Advancing.{advanced_then, advanced_still}
use Rattle.sr_database.proofs.InForce.{in_force_still}
use Rattle.sr_database.specs.Views.{View, committed}
use Rattle.sr_database_files.specs.declared.fault.DatabaseFault.{DatabaseFault}
use Rattle.sr_database_files.specs.declared.fault.DatabaseFault.TheVariants as store
use Rattle.sr_session_script.specs.Acts.{ScriptAct, commits, entries_of, text_from}
use Rattle.sr_session_script.specs.Scripts.{ScriptRun as Script, ran}
use Rattle.sr_session.specs.Ends.{StoreEnd, DidAllActs, EndsAs, SinkEnd}
use Rattle.sr_session.specs.Ends.{Wrote as LinesOf}
use Rattle.sr_session.specs.Reached.{Reached}
use Rattle.sr_session.specs.Inner.Running.{Ran, Keeps, counted, IsNoSink}
use Rattle.sr_session.specs.Runs.{RanScript}
use Rattle.sr_session.specs.Said.{IsPrefix, WrotePrefix, Said}
use Rattle.sr_session.specs.declared.fault.SessionFault.{SessionFault}
use Rattle.sr_session.specs.declared.fault.SessionFault.TheVariants.{Statement, Store, Sink, Memory}
use Rattle.sr_session.proofs.Commits.{came_none}
use Rattle.sr_session.proofs.Reaching.{database_along}
use Rattle.sr_session.proofs.Reports.{acts_endure}
use Rattle.sr_session.proofs.Stretches.{outputs_on, said_flush, prefix_said}
use Rattle.sr_session.proofs.Taking.{no_broken, prefix_of_store}
use Rattle.sr_session.proofs.Timely.{in_time_on}

-- ---- a value that keeps its log and what was committed

pub record IsKept (old new : View) : Type 0 where
  pub log : new.log ≡ old.log
  pub value : Advances old new []

broken_kept : (broken : List Recorded) (old new : View) (before now : Seen) → new.log ≡ old.log → IsBroken broken old before now → IsBroken broken new before now
broken_kept [] old new before now same state = (ap (λ (log : Log). log.usable) same ∙ state.0, state.1)
broken_kept (r ∷ []) old new before now same state = (ap (λ (log : Log). log.usable) same ∙ state.0, state.1)
broken_kept (r ∷ other ∷ rs) old new before now same state = state

usable_before : (old new : View) → new.log ≡ old.log → new.log.usable ≡ true → old.log.usable ≡ true
usable_before old new same can = sym (ap (λ (log : Log). log.usable) same) ∙ can

pub reached_kept : (old middle new : View) (before now : Seen) (acts : List ScriptAct) (broken : List Recorded) → IsKept middle new → Reached old middle before now acts broken → Reached old new before now acts broken
reached_kept old middle new before now acts broken kept reached = record {
  state = broken_kept broken middle new before now kept.log reached.state;
  room = reached.room;
  value = λ can.
      subst (λ (rs : List Recorded). Advances old new rs) (append-nil (entries_of acts))
      (advanced_then old middle new (entries_of acts) [] (reached.value (usable_before middle new kept.log can)) kept.value);
  end = λ can. ap (λ (log : Log). log.end) kept.log ∙ reached.end (usable_before middle new kept.log can);
  in_force = λ told can has. in_force_still middle new now now kept.log kept.value refl (λ image there. there) (reached.in_force told (usable_before middle new kept.log can) has);
  database = λ told can publisher es database.
      let there = reached.database told (usable_before middle new kept.log can) publisher es database in
      database_along middle new publisher _ now kept.log (advanced_still middle new publisher _ kept.value there.is) there;
  went = reached.went;
  attached = reached.attached;
  stays = reached.stays;
}

store_kept : (old new : View) (acts whole : List ScriptAct) (broken : List Recorded) (fault : DatabaseFault) → new.log ≡ old.log → StoreEnd old acts whole broken fault → StoreEnd new acts whole broken fault
store_kept old new acts whole broken store.Missing same end = end
store_kept old new acts whole broken store.Exists same end = end
store_kept old new acts whole broken (store.Damaged file at) same end = end
store_kept old new acts whole broken store.Disk same end = end
store_kept old new acts whole broken (store.Full at need) same end =
    (end.0, record { entry = end.1.entry; prefix = end.1.prefix; why = subst (λ (log : Log). IsTooFar log (entry_of end.1.entry) at need) (sym same) end.1.why })
store_kept old new acts whole broken (store.Long size limit) same end = end
store_kept old new acts whole broken store.Memory same end = end

-- ---- there is no memory for anything

pub ran_none : (view : View) (seen : Seen) (written : Output) (statements : List Stmt) → view.log.usable ≡ true → view.pending ≡ [] → RanScript view view seen seen written written statements (Err Memory)
ran_none view seen written statements usable none = record {
  acts = [];
  broken = [];
  reached = (came_none view seen [] [] usable refl).reached;
  ends = (refl, ((ran (committed view) statements).acts, refl));
  lines = λ told. sym (append-nil written.taken);
  reported = λ told publisher es database. acts_endure view view seen seen [] [] publisher es (came_none view seen [] [] usable refl).reached told database;
  in_time = λ told. record { done = 0; begun = ((ran (committed view) (take 1 statements)).acts, refl); wrote = ([], sym (append-nil (written.taken ++ []) ∙ append-nil written.taken)) };
  sink = refl;
  pending = none;
  stays = record { observable = refl; later = le_refl written.faults };
}

-- ---- the last lines are written, or the sink fails

-- how a script ended stays so
ends_kept : (script : Script) (count : ℕ) (old new : View) (acts : List ScriptAct) (broken : List Recorded) (result : Result ℕ SessionFault) → new.log ≡ old.log
    → EndsAs script count old acts broken result → EndsAs script count new acts broken result
ends_kept script count old new acts broken (Ok number) same ends = ends
ends_kept script count old new acts broken (Err (Statement number fault)) same ends = ends
ends_kept script count old new acts broken (Err (Store fault)) same ends = store_kept old new acts script.acts broken fault same ends
ends_kept script count old new acts broken (Err Sink) same ends = ends
ends_kept script count old new acts broken (Err Memory) same ends = ends

-- what a sink did with the last lines
pub record Wrote (lines : List ℕ) (before now : Output) : Type 0 where
  pub said : IsTrue before.observable → now.taken ≡ before.taken ++ lines
  pub stays : OutputStays before now
  pub steady : now.faults ≡ before.faults

pub record Failed (lines : List ℕ) (before now : Output) : Type 0 where
  pub prefix : IsTrue before.observable → WrotePrefix lines before.taken now.taken
  pub stays : OutputStays before now
  pub rose : Rose before.faults now.faults

all_said : (text kept old new now : List ℕ) → Said text kept old new → now ≡ new ++ kept → now ≡ old ++ text
all_said text kept old new now said is =
    let all = said_flush text kept old new now said is in all.new_is ∙ ap (λ l. old ++ l) (sym (all.all ∙ append-nil all.written))

told_there : (before now : Output) → OutputStays before now → IsTrue before.observable → IsTrue now.observable
told_there before now stays told = subst (λ b. IsTrue b) (sym stays.observable) told

lines_written : (text kept : List ℕ) (written taken taken' : Output) (result : Result (Unit {0}) SessionFault) (count : ℕ) → IsNoSink result → Keeps text written.taken taken.taken kept result
    → taken'.taken ≡ taken.taken ++ kept → LinesOf text written.taken taken'.taken (counted count result)
lines_written text kept written taken taken' (Ok done) count quiet said is = all_said text kept written.taken taken.taken taken'.taken said is
lines_written text kept written taken taken' (Err (Statement number fault)) count quiet said is = all_said text kept written.taken taken.taken taken'.taken said is
lines_written text kept written taken taken' (Err (Store fault)) count quiet said is = all_said text kept written.taken taken.taken taken'.taken said is
lines_written text kept written taken taken' (Err Sink) count quiet said is = absurd quiet
lines_written text kept written taken taken' (Err Memory) count quiet said is = all_said text kept written.taken taken.taken taken'.taken said is

sink_steady : (written taken taken' : Output) (result : Result (Unit {0}) SessionFault) (count : ℕ) → IsNoSink result → SinkEnd written taken (counted count result) → taken'.faults ≡ taken.faults
    → SinkEnd written taken' (counted count result)
sink_steady written taken taken' (Ok done) count quiet end same = same ∙ end
sink_steady written taken taken' (Err (Statement number fault)) count quiet end same = same ∙ end
sink_steady written taken taken' (Err (Store fault)) count quiet end same = same ∙ end
sink_steady written taken taken' (Err Sink) count quiet end same = absurd quiet
sink_steady written taken taken' (Err Memory) count quiet end same = same ∙ end

-- they are written
pub ended : (old middle new : View) (before now : Seen) (written taken taken' : Output) (kept : List ℕ) (statements : List Stmt) (result : Result (Unit {0}) SessionFault)
    → Ran old middle before now written taken kept statements result → IsNoSink result → IsKept middle new → new.pending ≡ [] → Wrote kept taken taken'
    → RanScript old new before now written taken' statements (counted (length statements) result)
ended old middle new before now written taken taken' kept statements result run quiet same none wrote = record {
  acts = run.acts;
  broken = run.broken;
  reached = reached_kept old middle new before now run.acts run.broken same run.reached;
  ends = ends_kept (ran (committed old) statements) (length statements) middle new run.acts run.broken (counted (length statements) result) same.log run.ends;
  lines = λ told. lines_written (text_from old.log.end run.acts) kept written taken taken' result (length statements) quiet (run.lines told) (wrote.said (told_there written taken run.stays told));
  reported = λ told publisher es database. acts_endure old middle before now run.acts run.broken publisher es run.reached told database;
  in_time = λ told.
      in_time_on (committed old) old.log.end statements (run.acts ++ map commits run.broken) written.taken taken.taken taken'.taken (run.in_time told)
      (kept, wrote.said (told_there written taken run.stays told));
  sink = sink_steady written taken taken' result (length statements) quiet run.sink wrote.steady;
  pending = none;
  stays = outputs_on written taken taken' run.stays wrote.stays;
}

-- the sink failed before
pub ended_already : (old middle new : View) (before now : Seen) (written taken : Output) (kept : List ℕ) (statements : List Stmt)
    → Ran old middle before now written taken kept statements (Err Sink) → IsKept middle new → new.pending ≡ []
    → RanScript old new before now written taken statements (Err Sink)
ended_already old middle new before now written taken kept statements run same none = record {
  acts = run.acts;
  broken = run.broken;
  reached = reached_kept old middle new before now run.acts run.broken same run.reached;
  ends = run.ends;
  lines = run.lines;
  reported = λ told publisher es database. acts_endure old middle before now run.acts run.broken publisher es run.reached told database;
  in_time = run.in_time;
  sink = run.sink;
  pending = none;
  stays = run.stays;
}

prefix_done : (script : Script) (acts : List ScriptAct) (broken : List Recorded) → DidAllActs script acts broken → IsPrefix (acts ++ map commits broken) script.acts
prefix_done script acts broken done = no_broken acts script.acts broken done.none ([], done.acts_are ∙ sym (append-nil acts))

prefix_of_end : (script : Script) (count : ℕ) (new : View) (acts : List ScriptAct) (broken : List Recorded) (result : Result ℕ SessionFault) → EndsAs script count new acts broken result
    → IsPrefix (acts ++ map commits broken) script.acts
prefix_of_end script count new acts broken (Ok number) end = prefix_done script acts broken end.0
prefix_of_end script count new acts broken (Err (Statement number fault)) end = prefix_done script acts broken end.0
prefix_of_end script count new acts broken (Err (Store fault)) end = prefix_of_store new acts script.acts broken fault end
prefix_of_end script count new acts broken (Err Sink) end = end
prefix_of_end script count new acts broken (Err Memory) end = no_broken acts script.acts broken end.0 end.1

lines_prefix : (text kept : List ℕ) (written taken taken' : Output) (result : Result (Unit {0}) SessionFault) → IsNoSink result → Keeps text written.taken taken.taken kept result
    → WrotePrefix kept taken.taken taken'.taken → WrotePrefix text written.taken taken'.taken
lines_prefix text kept written taken taken' (Ok done) quiet said prefix = prefix_said text kept written.taken taken.taken taken'.taken said prefix
lines_prefix text kept written taken taken' (Err (Statement number fault)) quiet said prefix = prefix_said text kept written.taken taken.taken taken'.taken said prefix
lines_prefix text kept written taken taken' (Err (Store fault)) quiet said prefix = prefix_said text kept written.taken taken.taken taken'.taken said prefix
lines_prefix text kept written taken taken' (Err Sink) quiet said prefix = absurd quiet
lines_prefix text kept written taken taken' (Err Memory) quiet said prefix = prefix_said text kept written.taken taken.taken taken'.taken said prefix

sink_rose : (written taken taken' : Output) (result : Result (Unit {0}) SessionFault) (count : ℕ) → IsNoSink result → SinkEnd written taken (counted count result) → Rose taken.faults taken'.faults
    → Rose written.faults taken'.faults
sink_rose written taken taken' (Ok done) count quiet end rose = subst (λ (n : ℕ). Rose n taken'.faults) end rose
sink_rose written taken taken' (Err (Statement number fault)) count quiet end rose = subst (λ (n : ℕ). Rose n taken'.faults) end rose
sink_rose written taken taken' (Err (Store fault)) count quiet end rose = subst (λ (n : ℕ). Rose n taken'.faults) end rose
sink_rose written taken taken' (Err Sink) count quiet end rose = absurd quiet
sink_rose written taken taken' (Err Memory) count quiet end rose = subst (λ (n : ℕ). Rose n taken'.faults) end rose

-- the sink fails
pub ended_sink : (old middle new : View) (before now : Seen) (written taken taken' : Output) (kept : List ℕ) (statements : List Stmt) (result : Result (Unit {0}) SessionFault)
    → Ran old middle before now written taken kept statements result → IsNoSink result → IsKept middle new → new.pending ≡ [] → Failed kept taken taken'
    → RanScript old new before now written taken' statements (Err Sink)
ended_sink old middle new before now written taken taken' kept statements result run quiet same none failed = record {
  acts = run.acts;
  broken = run.broken;
  reached = reached_kept old middle new before now run.acts run.broken same run.reached;
  ends = prefix_of_end (ran (committed old) statements) (length statements) middle run.acts run.broken (counted (length statements) result) run.ends;
  lines = λ told. lines_prefix (text_from old.log.end run.acts) kept written taken taken' result quiet (run.lines told) (failed.prefix (told_there written taken run.stays told));
  reported = λ told publisher es database. acts_endure old middle before now run.acts run.broken publisher es run.reached told database;
  in_time = λ told.
      let more = failed.prefix (told_there written taken run.stays told) in
      in_time_on (committed old) old.log.end statements (run.acts ++ map commits run.broken) written.taken taken.taken taken'.taken (run.in_time told) (more.written, more.new_is);
  sink = sink_rose written taken taken' result (length statements) quiet run.sink failed.rose;
  pending = none;
  stays = outputs_on written taken taken' run.stays failed.stays;
}
