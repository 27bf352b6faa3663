use Rattle.std.proofs.Common.{Option, ◌<◌, ◌≤◌, subst}
use Rattle.std.specs.Prelude.{◌≢◌, IfSome}
use Rattle.sr_base.specs.declared.offset.Offset.{Offset}
use Rattle.sr_database.specs.Inner.Entries.{IsNextEnd}
use Rattle.sr_send.specs.Inner.Starts.{BeginStop}
use Rattle.sr_send.specs.declared.fault.SendFault.TheVariants.{Memory}
use Rattle.sr_send.proofs.Results.{if_fault}
use Rattle.sr_send.proofs.Starts.{walk_start, walk_on, walk_end, begin_stopped}
use Rattle.sr_send.proofs.starting.end_before.Goals as goal

pub ends-init : goal.ends-init
ends-init g c = walk_start c.args.db.now c.args.sent.0 c.base-at.result (g.S.Held.seen c.args.site.now) (c.usable-usable_here.ensures.sound c.requires.usable) c.base-at.ensures.base

pub next_end-requires-clause-after : goal.next_end-requires-clause-after
next_end-requires-clause-after g c = (c.ends.invariant.from_base, c.ends.invariant.within)

pub returns-in_err-end-clause-cause : goal.returns-in_err-end-clause-cause
returns-in_err-end-clause-cause g c =
    let first = g.S.Held.seen c.args.site.now in
    let before = g.S.Held.seen c.ends.site in
    let now = g.S.Held.seen c.next_end.new.site in
    if_fault (BeginStop first now) c.in_err-end.field-0.0 c.from_residual.result c.from_residual.ensures.1
    (begin_stopped first before now c.in_err-end.field-0.0 c.ends.invariant.posted c.ends.invariant.steady c.next_end.ensures.posted c.next_end.ensures.mail c.in_err-end.ensures.cause)

pub returns-in_err-end-clause-memory : goal.returns-in_err-end-clause-memory
returns-in_err-end-clause-memory g c = if_fault (λ fault. fault ≢ Memory) c.in_err-end.field-0.0 c.from_residual.result c.from_residual.ensures.1 c.in_err-end.ensures.memory

pub ends-preserved : goal.ends-preserved
ends-preserved g c =
    let first = g.S.Held.seen c.args.site.now in
    let before = g.S.Held.seen c.ends.site in
    let now = g.S.Held.seen c.next_end.new.site in
    let within = subst (λ (found : Option Offset). IfSome found (λ end. (c.ends.at.0 < end.0) × (end.0 ≤ c.args.db.now.log.end) × (end.0 ≤ c.args.sent.0))) c.in-Some.is c.in_ok-end.ensures.within in
    walk_on c.args.db.now c.args.sent.0 c.ends.at c.in-Some.end first before now c.ends.invariant c.next_end.ensures.posted c.in_ok-end.ensures.steady within
    (λ told publisher done left database at. subst (λ (found : Option Offset). IfSome found (IsNextEnd done left)) c.in-Some.is (c.in_ok-end.ensures.end told publisher done left database at))

pub returns-clause-walked : goal.returns-clause-walked
returns-clause-walked g c =
    walk_end c.args.db.now c.args.sent.0 c.ends.at (g.S.Held.seen c.args.site.now) (g.S.Held.seen c.ends.site) (g.S.Held.seen c.next_end.new.site) c.ends.invariant c.next_end.ensures.posted c.in_ok-end.ensures.steady
