use Rattle.std.proofs.Common.{Option, ◌<◌, ◌≤◌, ◌∙◌, eqb-true, subst}
use Rattle.std.specs.Prelude.{IfSome}
use Rattle.sr_base.specs.declared.offset.Offset.{Offset}
use Rattle.sr_send.specs.Inner.Starts.{IsStillEnd}
use Rattle.sr_send_needs.specs.Inner.Reading.{SearchCause}
use Rattle.sr_send_needs.proofs.Followed.{if_fault, read_on, search_of}
use Rattle.sr_send_needs.proofs.Walks.{look_end, look_ends, look_on, look_start}
use Rattle.sr_send_needs.proofs.starting.is_still.Goals as goal

pub entries-init : goal.entries-init
entries-init g c = look_start c.args.db.now c.args.from (g.S.Held.seen c.args.site.now) c.requires.from

pub returns-in_err-end-clause-read : goal.returns-in_err-end-clause-read
returns-in_err-end-clause-read g c = read_on (g.S.Held.seen c.args.site.now) (g.S.Held.seen c.entries.site) (g.S.Held.seen c.still_end.new.site) c.entries.invariant.read c.still_end.ensures.read

pub returns-in_err-end-clause-cause : goal.returns-in_err-end-clause-cause
returns-in_err-end-clause-cause g c =
    let first = g.S.Held.seen c.args.site.now in
    let before = g.S.Held.seen c.entries.site in
    let now = g.S.Held.seen c.still_end.new.site in
    if_fault (SearchCause c.args.db.now first now) c.in_err-end.field-0.0 c.from_residual.result c.from_residual.ensures.1
    (search_of c.args.db.now c.entries.at first before now c.in_err-end.field-0.0 c.entries.invariant.read c.entries.invariant.steady
    (look_ends c.args.db.now c.args.from c.entries.at first before c.requires.end c.entries.invariant) c.in_err-end.ensures.cause)

pub entries-preserved : goal.entries-preserved
entries-preserved g c =
    let first = g.S.Held.seen c.args.site.now in
    let before = g.S.Held.seen c.entries.site in
    let now = g.S.Held.seen c.still_end.new.site in
    let within = subst (λ (found : Option Offset). IfSome found (λ end. (c.entries.at.0 < end.0) × (end.0 ≤ c.args.db.now.log.end))) c.in-Some.is c.in_ok-end.ensures.within in
    look_on c.args.db.now c.args.from c.entries.at c.in-Some.end first before now c.entries.invariant c.still_end.ensures.read c.in_ok-end.ensures.steady within
    (λ told publisher done left database at. subst (λ (found : Option Offset). IfSome found (IsStillEnd done left)) c.in-Some.is (c.in_ok-end.ensures.end told publisher done left database at))

pub returns-clause-still : goal.returns-clause-still
returns-clause-still g c = λ is.
    look_end c.args.db.now c.args.from c.entries.at (g.S.Held.seen c.args.site.now) (g.S.Held.seen c.entries.site) c.entries.invariant (eqb-true _ _ is ∙ c.end.ensures.end)

pub returns-clause-read : goal.returns-clause-read
returns-clause-read g c = read_on (g.S.Held.seen c.args.site.now) (g.S.Held.seen c.entries.site) (g.S.Held.seen c.still_end.new.site) c.entries.invariant.read c.still_end.ensures.read
