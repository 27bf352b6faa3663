use Rattle.sr_session_script.specs.Meaning.{goes, closing, once_closed, began}
use Rattle.sr_session_script.specs.Works.{closed}
use Rattle.sr_session.specs.Inner.Ready.{work_of}
use Rattle.sr_session.specs.Inner.Steps.{IsDoneStep}
use Rattle.sr_session.proofs.Dispatch.{closed_then, not_closed, closed_ready}
use Rattle.sr_session.proofs.Results.{took_err}
use Rattle.sr_session.proofs.step.begin_closed.Goals as goal

pub returns-in_err-close-clause-took : goal.returns-in_err-close-clause-took
returns-in_err-close-clause-took g c =
    let old = c.args.db.now in
    let middle = c.close.new.db in
    let first = g.S.Held.seen c.args.site.now in
    let second = g.S.Held.seen c.close.new.site in
    let l0 = c.args.session.now.lines.items in
    let l1 = c.close.new.lines.items in
    took_err (once_closed (work_of old c.args.session.now.region) (began c.args.passthrough.now)) old middle first second l0 l1 c.args.session.now.region c.in_err-close.field-0.0 c.from_residual.result c.from_residual.ensures.1
    (not_closed (began c.args.passthrough.now) old middle first second l0 l1 c.args.session.now.region c.args.session.now.region c.in_err-close.field-0.0 (c.in_err-close.ensures.took c.args.session.now.region))

pub begin-requires-clause-usable : goal.begin-requires-clause-usable
begin-requires-clause-usable g c =
    let old = c.args.db.now in
    let middle = c.close.new.db in
    let first = g.S.Held.seen c.args.site.now in
    let second = g.S.Held.seen c.close.new.site in
    let l0 = c.args.session.now.lines.items in
    let l1 = c.close.new.lines.items in
    let done : IsDoneStep (goes (closing old.pending) (closed (work_of old (c.args.session.now.region)))) old middle first second l0 l1 (c.args.session.now.region) = c.in_ok-close.ensures.took (c.args.session.now.region) in
    (closed_ready old middle first second l0 l1 (c.args.session.now.region) done c.requires.ready).usable

pub begin-requires-clause-sound : goal.begin-requires-clause-sound
begin-requires-clause-sound g c =
    let old = c.args.db.now in
    let middle = c.close.new.db in
    let first = g.S.Held.seen c.args.site.now in
    let second = g.S.Held.seen c.close.new.site in
    let l0 = c.args.session.now.lines.items in
    let l1 = c.close.new.lines.items in
    let done : IsDoneStep (goes (closing old.pending) (closed (work_of old (c.args.session.now.region)))) old middle first second l0 l1 (c.args.session.now.region) = c.in_ok-close.ensures.took (c.args.session.now.region) in
    (closed_ready old middle first second l0 l1 (c.args.session.now.region) done c.requires.ready).sound

pub returns-clause-took : goal.returns-clause-took
returns-clause-took g c =
    let old = c.args.db.now in
    let middle = c.close.new.db in
    let first = g.S.Held.seen c.args.site.now in
    let second = g.S.Held.seen c.close.new.site in
    let l0 = c.args.session.now.lines.items in
    let l1 = c.close.new.lines.items in
    let done : IsDoneStep (goes (closing old.pending) (closed (work_of old (c.args.session.now.region)))) old middle first second l0 l1 (c.args.session.now.region) = c.in_ok-close.ensures.took (c.args.session.now.region) in
    closed_then (began c.args.passthrough.now) old middle middle first second second l0 l1 c.begin.new.session.lines.items c.args.session.now.region c.begin.new.session.region c.begin.result done (c.begin.ensures.took second)
