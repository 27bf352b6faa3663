use Rattle.std.proofs.Common.{Option, ◌<◌, ◌≤◌, subst}
use Rattle.std.specs.Prelude.{IfSome}
use Rattle.sr_base.specs.declared.offset.Offset.{Offset}
use Rattle.sr_database.specs.Inner.Entries.{IsNextEnd}
use Rattle.sr_send_needs.specs.Inner.Reading.{SearchCause}
use Rattle.sr_send_needs.proofs.Followed.{if_fault, read_on, search_of}
use Rattle.sr_send_needs.proofs.Walks.{walk_end, walk_on, walk_start, walked_end}
use Rattle.sr_send_needs.proofs.starting.last_end.Goals as goal

pub ends-init : goal.ends-init
ends-init g c = walk_start c.args.db.now c.args.sent.0 c.base-at.result (g.S.Held.seen c.args.site.now) (c.usable-usable_here.ensures.sound c.requires.usable) c.base-at.ensures.base c.requires.sent

pub returns-in_err-end-clause-read : goal.returns-in_err-end-clause-read
returns-in_err-end-clause-read g c = read_on (g.S.Held.seen c.args.site.now) (g.S.Held.seen c.ends.site) (g.S.Held.seen c.next_end.new.site) c.ends.invariant.read c.next_end.ensures.read

pub returns-in_err-end-clause-cause : goal.returns-in_err-end-clause-cause
returns-in_err-end-clause-cause g c =
    let first = g.S.Held.seen c.args.site.now in
    let before = g.S.Held.seen c.ends.site in
    let now = g.S.Held.seen c.next_end.new.site in
    if_fault (SearchCause c.args.db.now first now) c.in_err-end.field-0.0 c.from_residual.result c.from_residual.ensures.1
    (search_of c.args.db.now c.ends.at first before now c.in_err-end.field-0.0 c.ends.invariant.read c.ends.invariant.steady (walked_end c.args.db.now c.args.sent.0 c.ends.at first before c.ends.invariant) c.in_err-end.ensures.cause)

pub ends-preserved : goal.ends-preserved
ends-preserved g c =
    let first = g.S.Held.seen c.args.site.now in
    let before = g.S.Held.seen c.ends.site in
    let now = g.S.Held.seen c.next_end.new.site in
    let within = subst (λ (found : Option Offset). IfSome found (λ end. (c.ends.at.0 < end.0) × (end.0 ≤ c.args.db.now.log.end) × (end.0 ≤ c.args.sent.0))) c.in-Some.is c.in_ok-end.ensures.within in
    walk_on c.args.db.now c.args.sent.0 c.ends.at c.in-Some.end first before now c.ends.invariant c.next_end.ensures.read c.in_ok-end.ensures.steady within
    (λ told publisher done left database at. subst (λ (found : Option Offset). IfSome found (IsNextEnd done left)) c.in-Some.is (c.in_ok-end.ensures.end told publisher done left database at))

pub returns-clause-walked : goal.returns-clause-walked
returns-clause-walked g c =
    walk_end c.args.db.now c.args.sent.0 c.ends.at (g.S.Held.seen c.args.site.now) (g.S.Held.seen c.ends.site) (g.S.Held.seen c.next_end.new.site) c.ends.invariant c.next_end.ensures.read c.in_ok-end.ensures.steady

pub returns-clause-read : goal.returns-clause-read
returns-clause-read g c = read_on (g.S.Held.seen c.args.site.now) (g.S.Held.seen c.ends.site) (g.S.Held.seen c.next_end.new.site) c.ends.invariant.read c.next_end.ensures.read
