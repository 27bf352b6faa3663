use Rattle.std.proofs.Common.{Option, Some, None, sym, subst}
use Rattle.std.specs.Prelude.{OnOk}
use Rattle.sr_ast.specs.declared.stmt.Passthrough.{Passthrough}
use Rattle.sr_ast.specs.declared.stmt.Stmt.{Stmt}
use Rattle.sr_ast.specs.declared.stmt.Stmt.TheVariants as stmt
use Rattle.sr_session_script.specs.Meaning.{goes, closing, once_closed, on_rows, passed, row_changes}
use Rattle.sr_session_script.specs.Works.{Work, closed}
use Rattle.sr_database.specs.Views.{committed}
use Rattle.sr_session.specs.Inner.Ready.{AreUsers, work_of}
use Rattle.sr_session.specs.Inner.Steps.{IsDoneStep, Took}
use Rattle.sr_session.proofs.Dispatch.{closed_then, closed_pending, not_closed, closed_ready, closed_users, users_behind}
use Rattle.sr_session.proofs.Results.{took_err}
use Rattle.sr_session.proofs.step.on_rows.Goals as goal

pub returns-in-None-clause-took : goal.returns-in-None-clause-took
returns-in-None-clause-took g c =
    let old = c.args.db.now in
    let first = g.S.Held.seen c.args.site.now in
    subst (λ (r : Option Passthrough). Took (on_rows r c.args.dml.now (work_of old r)) old c.execute.new.db first first c.args.session.now.lines.items c.execute.new.lines.items r c.execute.result) (sym c.in-None.is)
    (c.execute.ensures.took first None)

pub returns-in_err-close-in-Some-clause-took : goal.returns-in_err-close-in-Some-clause-took
returns-in_err-close-in-Some-clause-took g c =
    let old = c.args.db.now in
    let middle = c.close.new.db in
    let first = g.S.Held.seen c.args.site.now in
    let second = g.S.Held.seen c.close.new.site in
    let l0 = c.args.session.now.lines.items in
    let l1 = c.close.new.lines.items in
    let p = c.in-Some.region in
    let step = λ (w : Work). passed p (stmt.Dml c.args.dml.now) (row_changes p.only w.state c.args.dml.now) w in
    subst (λ (r : Option Passthrough). Took (on_rows r c.args.dml.now (work_of old r)) old middle first second l0 l1 r c.from_residual.result) (sym c.in-Some.is)
    (took_err (once_closed (work_of old (Some p)) step) old middle first second l0 l1 (Some p) c.in_err-close-in-Some.field-0.0 c.from_residual.result c.from_residual.ensures.1
    (not_closed step old middle first second l0 l1 (Some p) (Some p) c.in_err-close-in-Some.field-0.0 (c.in_err-close-in-Some.ensures.took (Some p))))

pub pass_rows-requires-clause-ready : goal.pass_rows-requires-clause-ready
pass_rows-requires-clause-ready g c =
    closed_ready c.args.db.now c.close.new.db (g.S.Held.seen c.args.site.now) (g.S.Held.seen c.close.new.site) c.args.session.now.lines.items c.close.new.lines.items None (c.in_ok-close-in-Some.ensures.took None) c.requires.ready

pub pass_rows-requires-clause-pending : goal.pass_rows-requires-clause-pending
pass_rows-requires-clause-pending g c =
    closed_pending c.args.db.now c.close.new.db (g.S.Held.seen c.args.site.now) (g.S.Held.seen c.close.new.site) c.args.session.now.lines.items c.close.new.lines.items None (c.in_ok-close-in-Some.ensures.took None)

pub pass_rows-requires-clause-users : goal.pass_rows-requires-clause-users
pass_rows-requires-clause-users g c =
    closed_users c.args.db.now c.close.new.db (g.S.Held.seen c.args.site.now) (g.S.Held.seen c.close.new.site) c.args.session.now.lines.items c.close.new.lines.items (Some c.in-Some.region)
    (c.in_ok-close-in-Some.ensures.took (Some c.in-Some.region)) c.requires.ready.sound (subst (λ (r : Option Passthrough). AreUsers (committed c.args.db.now) r) c.in-Some.is c.requires.users)

pub returns-in_ok-close-in-Some-clause-took : goal.returns-in_ok-close-in-Some-clause-took
returns-in_ok-close-in-Some-clause-took g c =
    let old = c.args.db.now in
    let middle = c.close.new.db in
    let new = c.pass_rows.new.db in
    let first = g.S.Held.seen c.args.site.now in
    let second = g.S.Held.seen c.close.new.site in
    let third = g.S.Held.seen c.pass_rows.new.site in
    let l0 = c.args.session.now.lines.items in
    let l1 = c.close.new.lines.items in
    let l2 = c.pass_rows.new.lines.items in
    let p = c.in-Some.region in
    let step = λ (w : Work). passed p (stmt.Dml c.args.dml.now) (row_changes p.only w.state c.args.dml.now) w in
    subst (λ (r : Option Passthrough). Took (on_rows r c.args.dml.now (work_of old r)) old new first third l0 l2 r c.pass_rows.result) (sym c.in-Some.is)
    (closed_then step old middle new first second third l0 l1 l2 (Some p) (Some p) c.pass_rows.result (c.in_ok-close-in-Some.ensures.took (Some p))
    (subst (λ (s : Stmt). Took (passed p s (row_changes p.only (committed middle) c.args.dml.now) (work_of middle (Some p))) middle new second third l1 l2 (Some p) c.pass_rows.result) c.requires.stmt
    c.pass_rows.ensures.took))

pub returns-in_ok-close-in-Some-clause-users : goal.returns-in_ok-close-in-Some-clause-users
returns-in_ok-close-in-Some-clause-users g c =
    let old = c.args.db.now in
    let middle = c.close.new.db in
    let new = c.pass_rows.new.db in
    let first = g.S.Held.seen c.args.site.now in
    let second = g.S.Held.seen c.close.new.site in
    let third = g.S.Held.seen c.pass_rows.new.site in
    let l0 = c.args.session.now.lines.items in
    let l1 = c.close.new.lines.items in
    let l2 = c.pass_rows.new.lines.items in
    let p = c.in-Some.region in
    let done : IsDoneStep (goes (closing old.pending) (closed (work_of old (Some p)))) old middle first second l0 l1 (Some p) = c.in_ok-close-in-Some.ensures.took (Some p) in
    subst (λ (r : Option Passthrough). OnOk c.pass_rows.result (AreUsers (committed new) r)) (sym c.in-Some.is)
    (users_behind (passed p c.args.stmt.now (row_changes p.only (committed middle) c.args.dml.now) (work_of middle (Some p))) middle new second third l1 l2 (Some p) c.pass_rows.result c.pass_rows.ensures.took
    (closed_ready old middle first second l0 l1 (Some p) done c.requires.ready).sound
    (closed_users old middle first second l0 l1 (Some p) done c.requires.ready.sound (subst (λ (r : Option Passthrough). AreUsers (committed old) r) c.in-Some.is c.requires.users)))
