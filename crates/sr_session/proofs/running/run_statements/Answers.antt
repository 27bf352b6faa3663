use Rattle.std.proofs.Common.{◌∷◌, ◌-◌, [], List, ℕ, Option, Err, length, refl, sym, subst, ◌∙◌}
use Rattle.sr_ast.specs.declared.stmt.Passthrough.{Passthrough}
use Rattle.sr_ast.specs.declared.stmt.Stmt.{Stmt}
use Rattle.sr_session.specs.Inner.Running.{Under, Ran}
use Rattle.sr_session.specs.declared.fault.SessionFault.{SessionFault}
use Rattle.sr_session.proofs.Stretches.{under_start, under_step, under_flush, ran_fault, ran_sink, stopped_by_sink}
use Rattle.sr_session.proofs.running.run_statements.Goals as goal

pub statements-init : goal.statements-init
statements-init g c =
    under_start c.args.db.now (g.S.Held.seen c.args.site.now) (g.O.Sink.seen c.args.sink.now) c.args.session.now.lines.items c.args.session.now.region c.args.statements.now c.requires.ready c.requires.pending
    c.requires.outside c.requires.empty c.requires.normal

pub returns-in-Err : goal.returns-in-Err
returns-in-Err g c =
    let old = c.args.db.now in
    let view = c.statements.db in
    let new = c.step.new.db in
    let first = g.S.Held.seen c.args.site.now in
    let seen = g.S.Held.seen c.statements.site in
    let now = g.S.Held.seen c.step.new.site in
    let written = g.O.Sink.seen c.args.sink.now in
    let taken = g.O.Sink.seen c.statements.sink in
    let lines = c.statements.session.lines.items in
    let lines' = c.step.new.session.lines.items in
    let region = c.statements.session.region in
    let region' = c.step.new.session.region in
    let all = c.args.statements.now in
    let rest = c.in-Some.rest.now in
    let under : Under old view first seen written taken lines region all (c.in-Some.statement.now ∷ rest) = subst (λ (l : List Stmt). Under old view first seen written taken lines region all l) c.in-Some.ensures.cases.0 c.statements.invariant in
    record {
      ran =
          subst (λ (f : SessionFault). Ran old new first now written taken lines' all (Err f)) (sym c.at.ensures.fault)
          (ran_fault old view new first seen now written taken lines lines' region region' all rest c.in-Some.statement.now (length all - length rest) c.in-Err.fault under c.in-Err.ensures.took refl);
    }

pub returns-in_err-flush : goal.returns-in_err-flush
returns-in_err-flush g c =
    let old = c.args.db.now in
    let view = c.statements.db in
    let new = c.step.new.db in
    let first = g.S.Held.seen c.args.site.now in
    let seen = g.S.Held.seen c.statements.site in
    let now = g.S.Held.seen c.step.new.site in
    let written = g.O.Sink.seen c.args.sink.now in
    let taken = g.O.Sink.seen c.statements.sink in
    let lines = c.statements.session.lines.items in
    let lines' = c.step.new.session.lines.items in
    let region = c.statements.session.region in
    let region' = c.step.new.session.region in
    let all = c.args.statements.now in
    let rest = c.in-Some.rest.now in
    let under : Under old view first seen written taken lines region all (c.in-Some.statement.now ∷ rest) = subst (λ (l : List Stmt). Under old view first seen written taken lines region all l) c.in-Some.ensures.cases.0 c.statements.invariant in
    let taken' = g.O.Sink.seen c.flush.new.sink in
    let kept = c.flush.new.session.lines.items in
    record {
      ran =
          stopped_by_sink old new first now written taken' kept c.flush.new.session.region all c.in_err-flush.field-0.0 c.from_residual.result c.from_residual.ensures.1 c.in_err-flush.ensures.cause
          (ran_sink old view new first seen now written taken taken' lines lines' kept region region' all rest c.in-Some.statement.now under c.in-Ok.ensures.took c.in_err-flush.ensures.prefix
          c.in_err-flush.ensures.stays c.in_err-flush.ensures.rose);
    }

pub statements-preserved-in-Continue-1 : goal.statements-preserved-in-Continue-1
statements-preserved-in-Continue-1 g c =
    let old = c.args.db.now in
    let view = c.statements.db in
    let new = c.step.new.db in
    let first = g.S.Held.seen c.args.site.now in
    let seen = g.S.Held.seen c.statements.site in
    let now = g.S.Held.seen c.step.new.site in
    let written = g.O.Sink.seen c.args.sink.now in
    let taken = g.O.Sink.seen c.statements.sink in
    let lines = c.statements.session.lines.items in
    let lines' = c.step.new.session.lines.items in
    let region = c.statements.session.region in
    let region' = c.step.new.session.region in
    let all = c.args.statements.now in
    let rest = c.in-Some.rest.now in
    let under : Under old view first seen written taken lines region all (c.in-Some.statement.now ∷ rest) = subst (λ (l : List Stmt). Under old view first seen written taken lines region all l) c.in-Some.ensures.cases.0 c.statements.invariant in
    let taken' = g.O.Sink.seen c.flush.new.sink in
    subst (λ (l : List ℕ). Under old new first now written taken' l c.flush.new.session.region all rest) (sym c.in_ok-flush.ensures.kept)
    (subst (λ (r : Option Passthrough). Under old new first now written taken' [] r all rest) (sym c.in_ok-flush.ensures.region)
    (under_flush old view new first seen now written taken taken' lines lines' region region' all rest c.in-Some.statement.now under c.in-Ok.ensures.took c.in-Ok.ensures.users
    (sym c.is_due.ensures.due ∙ c.if-is_due.true) c.in_ok-flush.ensures.said c.in_ok-flush.ensures.stays c.in_ok-flush.ensures.steady))

pub statements-preserved : goal.statements-preserved
statements-preserved g c =
    let old = c.args.db.now in
    let view = c.statements.db in
    let new = c.step.new.db in
    let first = g.S.Held.seen c.args.site.now in
    let seen = g.S.Held.seen c.statements.site in
    let now = g.S.Held.seen c.step.new.site in
    let written = g.O.Sink.seen c.args.sink.now in
    let taken = g.O.Sink.seen c.statements.sink in
    let lines = c.statements.session.lines.items in
    let lines' = c.step.new.session.lines.items in
    let region = c.statements.session.region in
    let region' = c.step.new.session.region in
    let all = c.args.statements.now in
    let rest = c.in-Some.rest.now in
    let under : Under old view first seen written taken lines region all (c.in-Some.statement.now ∷ rest) = subst (λ (l : List Stmt). Under old view first seen written taken lines region all l) c.in-Some.ensures.cases.0 c.statements.invariant in
    under_step old view new first seen now written taken lines lines' region region' all rest c.in-Some.statement.now under c.in-Ok.ensures.took c.in-Ok.ensures.users
    (sym c.is_due.ensures.due ∙ c.if-is_due.false)
