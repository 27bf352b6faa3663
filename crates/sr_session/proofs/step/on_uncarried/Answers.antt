use Rattle.std.proofs.Common.{Option, None, sym, subst}
use Rattle.sr_ast.specs.declared.stmt.Passthrough.{Passthrough}
use Rattle.sr_session_script.specs.Meaning.{goes, closing, once_closed, on_uncarried}
use Rattle.sr_session_script.specs.Works.{closed}
use Rattle.sr_session.specs.Inner.Ready.{work_of}
use Rattle.sr_session.specs.Inner.Steps.{IsDoneStep, Took}
use Rattle.sr_session.proofs.Dispatch.{closed_then, closed_pending, not_closed, closed_ready, closed_users, in_any}
use Rattle.sr_session.proofs.Results.{took_err}
use Rattle.sr_session.proofs.step.on_uncarried.Goals as goal

pub returns-in_err-close-clause-took : goal.returns-in_err-close-clause-took
returns-in_err-close-clause-took g c =
    let old = c.args.db.now in
    let middle = c.close.new.db in
    let first = g.S.Held.seen c.args.site.now in
    let second = g.S.Held.seen c.close.new.site in
    let l0 = c.args.session.now.lines.items in
    let l1 = c.close.new.lines.items in
    took_err (once_closed (work_of old c.args.session.now.region) (on_uncarried c.args.session.now.region c.args.name.now c.args.stmt.now)) old middle first second l0 l1 c.args.session.now.region c.in_err-close.field-0.0 c.from_residual.result c.from_residual.ensures.1
    (not_closed (on_uncarried c.args.session.now.region c.args.name.now c.args.stmt.now) old middle first second l0 l1 c.args.session.now.region c.args.session.now.region c.in_err-close.field-0.0 (c.in_err-close.ensures.took c.args.session.now.region))

pub change-requires-clause-ready : goal.change-requires-clause-ready
change-requires-clause-ready g c =
    let old = c.args.db.now in
    let middle = c.close.new.db in
    let first = g.S.Held.seen c.args.site.now in
    let second = g.S.Held.seen c.close.new.site in
    let l0 = c.args.session.now.lines.items in
    let l1 = c.close.new.lines.items in
    let done : IsDoneStep (goes (closing old.pending) (closed (work_of old (c.args.session.now.region)))) old middle first second l0 l1 (c.args.session.now.region) = c.in_ok-close.ensures.took (c.args.session.now.region) in
    (closed_ready old middle first second l0 l1 (c.args.session.now.region) done c.requires.ready)

pub change-requires-clause-pending : goal.change-requires-clause-pending
change-requires-clause-pending g c =
    let old = c.args.db.now in
    let middle = c.close.new.db in
    let first = g.S.Held.seen c.args.site.now in
    let second = g.S.Held.seen c.close.new.site in
    let l0 = c.args.session.now.lines.items in
    let l1 = c.close.new.lines.items in
    let done : IsDoneStep (goes (closing old.pending) (closed (work_of old (c.args.session.now.region)))) old middle first second l0 l1 (c.args.session.now.region) = c.in_ok-close.ensures.took (c.args.session.now.region) in
    closed_pending old middle first second l0 l1 c.args.session.now.region done

pub refuse-requires : goal.refuse-requires
refuse-requires g c =
    let old = c.args.db.now in
    let middle = c.close.new.db in
    let first = g.S.Held.seen c.args.site.now in
    let second = g.S.Held.seen c.close.new.site in
    let l0 = c.args.session.now.lines.items in
    let l1 = c.close.new.lines.items in
    let done : IsDoneStep (goes (closing old.pending) (closed (work_of old (c.args.session.now.region)))) old middle first second l0 l1 (c.args.session.now.region) = c.in_ok-close.ensures.took (c.args.session.now.region) in
    record { usable = (closed_ready old middle first second l0 l1 (c.args.session.now.region) done c.requires.ready).usable }

pub returns-in-None-clause-took : goal.returns-in-None-clause-took
returns-in-None-clause-took g c =
    let old = c.args.db.now in
    let middle = c.close.new.db in
    let first = g.S.Held.seen c.args.site.now in
    let second = g.S.Held.seen c.close.new.site in
    let l0 = c.args.session.now.lines.items in
    let l1 = c.close.new.lines.items in
    let done : IsDoneStep (goes (closing old.pending) (closed (work_of old (c.args.session.now.region)))) old middle first second l0 l1 (c.args.session.now.region) = c.in_ok-close.ensures.took (c.args.session.now.region) in
    let third = g.S.Held.seen c.change.new.site in
    closed_then (on_uncarried c.args.session.now.region c.args.name.now c.args.stmt.now) old middle c.change.new.db first second third l0 l1 c.change.new.lines.items c.args.session.now.region c.args.session.now.region c.change.result done
    (subst (λ (r : Option Passthrough). Took (on_uncarried r c.args.name.now c.args.stmt.now (work_of middle r)) middle c.change.new.db second third l1 c.change.new.lines.items r c.change.result) (sym c.in-None.is)
    (c.change.ensures.took None))

pub returns-in-Some-clause-took : goal.returns-in-Some-clause-took
returns-in-Some-clause-took g c =
    let old = c.args.db.now in
    let middle = c.close.new.db in
    let first = g.S.Held.seen c.args.site.now in
    let second = g.S.Held.seen c.close.new.site in
    let l0 = c.args.session.now.lines.items in
    let l1 = c.close.new.lines.items in
    let done : IsDoneStep (goes (closing old.pending) (closed (work_of old (c.args.session.now.region)))) old middle first second l0 l1 (c.args.session.now.region) = c.in_ok-close.ensures.took (c.args.session.now.region) in
    closed_then (on_uncarried c.args.session.now.region c.args.name.now c.args.stmt.now) old middle middle first second second l0 l1 l1 c.args.session.now.region c.args.session.now.region c.refuse.result done
    (subst (λ (r : Option Passthrough). Took (on_uncarried r c.args.name.now c.args.stmt.now (work_of middle r)) middle middle second second l1 l1 r c.refuse.result) (sym c.in-Some.is)
    (c.refuse.ensures.took second l1))

pub returns-in-Some-clause-users : goal.returns-in-Some-clause-users
returns-in-Some-clause-users g c =
    let old = c.args.db.now in
    let middle = c.close.new.db in
    let first = g.S.Held.seen c.args.site.now in
    let second = g.S.Held.seen c.close.new.site in
    let l0 = c.args.session.now.lines.items in
    let l1 = c.close.new.lines.items in
    let done : IsDoneStep (goes (closing old.pending) (closed (work_of old (c.args.session.now.region)))) old middle first second l0 l1 (c.args.session.now.region) = c.in_ok-close.ensures.took (c.args.session.now.region) in
    in_any c.refuse.result (closed_users old middle first second l0 l1 c.args.session.now.region done c.requires.ready.sound c.requires.users)
