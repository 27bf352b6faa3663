use Rattle.std.proofs.Common.{◌≡◌, ◌++◌, [], List, ℕ, Result, not, length, ap, sym, subst, ◌∙◌}
use Rattle.sr_ast.specs.declared.stmt.Stmt.{Stmt}
use Rattle.sr_database.specs.Views.{View}
use Rattle.sr_session.specs.Inner.Running.{Ran, IsNoSink, counted}
use Rattle.sr_session.specs.Runs.{RanScript}
use Rattle.sr_session.specs.Said.{WrotePrefix}
use Rattle.sr_session.specs.declared.fault.SessionFault.{SessionFault}
use Rattle.sr_session.proofs.Ending.{IsKept, Wrote, Failed, ran_none, ended, ended_already, ended_sink}
use Rattle.sr_session.proofs.run.run_script.Goals as goal

pub returns-in_default : goal.returns-in_default
returns-in_default g c = record { ran = ran_none c.args.db.now (g.S.Held.seen c.args.site.now) (g.O.Sink.seen c.args.sink.now) c.args.script.now c.requires.usable c.requires.pending }

pub run_to_end-outcome-requires-clause-ready : goal.run_to_end-outcome-requires-clause-ready
run_to_end-outcome-requires-clause-ready g c = record { usable = c.requires.usable; sound = c.usable-usable_here.ensures.sound c.requires.usable; stands = c.requires.stands }

pub returns-then-is_of_sink : goal.returns-then-is_of_sink
returns-then-is_of_sink g c =
    let old = c.args.db.now in
    let middle = c.run_to_end-outcome.new.db in
    let new = c.rollback.new.self in
    let before = g.S.Held.seen c.args.site.now in
    let now = g.S.Held.seen c.run_to_end-outcome.new.site in
    let written = g.O.Sink.seen c.args.sink.now in
    let taken = g.O.Sink.seen c.run_to_end-outcome.new.sink in
    let kept = c.run_to_end-outcome.new.session.lines.items in
    let all = c.args.script.now in
    let same : IsKept middle new = record { log = ap (λ (v : View). v.log) c.rollback.ensures.back; value = c.rollback.ensures.value } in
    let none : new.pending ≡ [] = ap (λ (v : View). v.pending) c.rollback.ensures.back in
    let run : Ran old middle before now written taken kept all c.run_to_end-outcome.result =
    subst (λ (l : List Stmt). Ran old middle before now written taken kept l c.run_to_end-outcome.result) c.as_slice-statements.ensures.items c.run_to_end-outcome.ensures.ran in
    record {
      ran =
          ended_already old middle new before now written taken kept all
          (subst (λ (r : Result (Unit {0}) SessionFault). Ran old middle before now written taken kept all r) (c.is_of_sink.ensures.sink c.if-is_of_sink.true) run) same none;
    }

pub returns-in-Ok-say : goal.returns-in-Ok-say
returns-in-Ok-say g c =
    let old = c.args.db.now in
    let middle = c.run_to_end-outcome.new.db in
    let new = c.rollback.new.self in
    let before = g.S.Held.seen c.args.site.now in
    let now = g.S.Held.seen c.run_to_end-outcome.new.site in
    let written = g.O.Sink.seen c.args.sink.now in
    let taken = g.O.Sink.seen c.run_to_end-outcome.new.sink in
    let kept = c.run_to_end-outcome.new.session.lines.items in
    let all = c.args.script.now in
    let same : IsKept middle new = record { log = ap (λ (v : View). v.log) c.rollback.ensures.back; value = c.rollback.ensures.value } in
    let none : new.pending ≡ [] = ap (λ (v : View). v.pending) c.rollback.ensures.back in
    let run : Ran old middle before now written taken kept all c.run_to_end-outcome.result =
    subst (λ (l : List Stmt). Ran old middle before now written taken kept l c.run_to_end-outcome.result) c.as_slice-statements.ensures.items c.run_to_end-outcome.ensures.ran in
    let taken' = g.O.Sink.seen c.say.new.sink in
    let no : IsNoSink c.run_to_end-outcome.result = c.is_of_sink.ensures.other (ap not c.if-is_of_sink.false) in
    let wrote : Wrote kept taken taken' = record {
      said = λ told. c.in-Ok-say.ensures.said told ∙ ap (λ (l : List ℕ). taken.taken ++ l) c.as_slice.ensures.value;
      stays = c.in-Ok-say.ensures.stays;
      steady = c.in-Ok-say.ensures.steady;
    } in
    let count_is : c.in-Ok.count ≡ length all = c.in-Ok.ensures.1 ∙ ap (λ (l : List Stmt). length l) c.as_slice-statements.ensures.items in
    record {
      ran =
          subst (λ (r : Result ℕ SessionFault). RanScript old new before now written taken' all r) (sym (c.counted.ensures.counted ∙ ap (λ (n : ℕ). counted n c.run_to_end-outcome.result) count_is))
          (ended old middle new before now written taken taken' kept all c.run_to_end-outcome.result run no same none wrote);
    }

pub returns : goal.returns
returns g c =
    let old = c.args.db.now in
    let middle = c.run_to_end-outcome.new.db in
    let new = c.rollback.new.self in
    let before = g.S.Held.seen c.args.site.now in
    let now = g.S.Held.seen c.run_to_end-outcome.new.site in
    let written = g.O.Sink.seen c.args.sink.now in
    let taken = g.O.Sink.seen c.run_to_end-outcome.new.sink in
    let kept = c.run_to_end-outcome.new.session.lines.items in
    let all = c.args.script.now in
    let same : IsKept middle new = record { log = ap (λ (v : View). v.log) c.rollback.ensures.back; value = c.rollback.ensures.value } in
    let none : new.pending ≡ [] = ap (λ (v : View). v.pending) c.rollback.ensures.back in
    let run : Ran old middle before now written taken kept all c.run_to_end-outcome.result =
    subst (λ (l : List Stmt). Ran old middle before now written taken kept l c.run_to_end-outcome.result) c.as_slice-statements.ensures.items c.run_to_end-outcome.ensures.ran in
    let taken' = g.O.Sink.seen c.say.new.sink in
    let no : IsNoSink c.run_to_end-outcome.result = c.is_of_sink.ensures.other (ap not c.if-is_of_sink.false) in
    let failed : Failed kept taken taken' = record {
      prefix = λ told. subst (λ (l : List ℕ). WrotePrefix l taken.taken taken'.taken) c.as_slice.ensures.value (c.in-Err.ensures.prefix told);
      stays = c.in-Err.ensures.stays;
      rose = c.in-Err.ensures.cause;
    } in
    record { ran = ended_sink old middle new before now written taken taken' kept all c.run_to_end-outcome.result run no same none failed }
