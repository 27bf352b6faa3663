use Rattle.sr_session_script.specs.Meaning.{goes, closing, once_closed, ended}
use Rattle.sr_session_script.specs.Works.{closed}
use Rattle.sr_session.specs.Inner.Ready.{work_of}
use Rattle.sr_session.specs.Inner.Steps.{IsDoneStep}
use Rattle.sr_session.proofs.Dispatch.{closed_then, not_closed, closed_ready}
use Rattle.sr_session.proofs.Results.{took_err}
use Rattle.sr_session.proofs.step.end_closed.Goals as goal

pub returns-in_err-close-clause-took : goal.returns-in_err-close-clause-took
returns-in_err-close-clause-took g c =
    let old = c.args.db.now in
    let middle = c.close.new.db in
    let first = g.S.Held.seen c.args.site.now in
    let second = g.S.Held.seen c.close.new.site in
    let l0 = c.args.session.now.lines.items in
    let l1 = c.close.new.lines.items in
    took_err (once_closed (work_of old c.args.session.now.region) (ended)) old middle first second l0 l1 c.args.session.now.region c.in_err-close.field-0.0 c.from_residual.result c.from_residual.ensures.1
    (not_closed (ended) old middle first second l0 l1 c.args.session.now.region c.args.session.now.region c.in_err-close.field-0.0 (c.in_err-close.ensures.took c.args.session.now.region))

pub end-requires-clause-usable : goal.end-requires-clause-usable
end-requires-clause-usable g c =
    let old = c.args.db.now in
    let middle = c.close.new.db in
    let first = g.S.Held.seen c.args.site.now in
    let second = g.S.Held.seen c.close.new.site in
    let l0 = c.args.session.now.lines.items in
    let l1 = c.close.new.lines.items in
    let done : IsDoneStep (goes (closing old.pending) (closed (work_of old (c.args.session.now.region)))) old middle first second l0 l1 (c.args.session.now.region) = c.in_ok-close.ensures.took (c.args.session.now.region) in
    (closed_ready old middle first second l0 l1 (c.args.session.now.region) done c.requires.ready).usable

pub end-requires-clause-sound : goal.end-requires-clause-sound
end-requires-clause-sound g c =
    let old = c.args.db.now in
    let middle = c.close.new.db in
    let first = g.S.Held.seen c.args.site.now in
    let second = g.S.Held.seen c.close.new.site in
    let l0 = c.args.session.now.lines.items in
    let l1 = c.close.new.lines.items in
    let done : IsDoneStep (goes (closing old.pending) (closed (work_of old (c.args.session.now.region)))) old middle first second l0 l1 (c.args.session.now.region) = c.in_ok-close.ensures.took (c.args.session.now.region) in
    (closed_ready old middle first second l0 l1 (c.args.session.now.region) done c.requires.ready).sound

pub returns-clause-took : goal.returns-clause-took
returns-clause-took g c =
    let old = c.args.db.now in
    let middle = c.close.new.db in
    let first = g.S.Held.seen c.args.site.now in
    let second = g.S.Held.seen c.close.new.site in
    let l0 = c.args.session.now.lines.items in
    let l1 = c.close.new.lines.items in
    let done : IsDoneStep (goes (closing old.pending) (closed (work_of old (c.args.session.now.region)))) old middle first second l0 l1 (c.args.session.now.region) = c.in_ok-close.ensures.took (c.args.session.now.region) in
    closed_then ended old middle middle first second second l0 l1 c.end.new.session.lines.items c.args.session.now.region c.end.new.session.region c.end.result done (c.end.ensures.took second)
