use Rattle.std.proofs.Common.{◌<◌, ◌≤◌, Option, subst}
use Rattle.std.specs.Prelude.{IfSome}
use Rattle.sr_base.specs.declared.offset.Offset.{Offset}
use Rattle.sr_send.proofs.Known.{none_is}
use Rattle.sr_send.specs.Inner.Surveys.{SurveysTo}
use Rattle.sr_send_needs.specs.Inner.Reading.{SearchCause}
use Rattle.sr_send_needs.proofs.Followed.{if_fault, read_on, search_from}
use Rattle.sr_send_needs.proofs.Takings.{take_on, take_start}
use Rattle.sr_send_needs.proofs.surveying.read_to_end.Goals as goal

pub entries-init : goal.entries-init
entries-init g c = take_start c.args.db.now c.args.survey.now c.args.from (g.S.Held.seen c.args.site.now) c.requires.from c.requires.surveyed

pub returns-in_err-end-clause-read : goal.returns-in_err-end-clause-read
returns-in_err-end-clause-read g c = read_on (g.S.Held.seen c.args.site.now) (g.S.Held.seen c.entries.site) (g.S.Held.seen c.take_next.new.site) c.entries.invariant.read c.take_next.ensures.read

pub returns-in_err-end-clause-cause : goal.returns-in_err-end-clause-cause
returns-in_err-end-clause-cause g c =
    let first = g.S.Held.seen c.args.site.now in
    let before = g.S.Held.seen c.entries.site in
    let now = g.S.Held.seen c.take_next.new.site in
    if_fault (SearchCause c.args.db.now first now) c.in_err-end.field-0.0 c.from_residual.result c.from_residual.ensures.1
    (search_from c.args.db.now first before now c.in_err-end.field-0.0 c.entries.invariant.read c.entries.invariant.steady c.in_err-end.ensures.cause)

pub entries-preserved : goal.entries-preserved
entries-preserved g c =
    let first = g.S.Held.seen c.args.site.now in
    let before = g.S.Held.seen c.entries.site in
    let now = g.S.Held.seen c.take_next.new.site in
    let within = subst (λ (found : Option Offset). IfSome found (λ end. (c.entries.at.0 < end.0) × (end.0 ≤ c.args.db.now.log.end))) c.in-Some.is c.in_ok-end.ensures.within in
    take_on c.args.db.now c.entries.survey c.take_next.new.survey c.entries.at c.in-Some.end first before now c.entries.invariant c.take_next.ensures.read c.in_ok-end.ensures.steady within
    (subst (λ (found : Option Offset). IfSome found (λ end. SurveysTo c.args.db.now c.take_next.new.survey end now)) c.in-Some.is c.in_ok-end.ensures.surveyed)

pub returns-clause-whole : goal.returns-clause-whole
returns-clause-whole g c = c.in_ok-end.ensures.whole (none_is c.in_ok-end.field-0 c.in_default.not-Some)

pub returns-clause-read : goal.returns-clause-read
returns-clause-read g c = read_on (g.S.Held.seen c.args.site.now) (g.S.Held.seen c.entries.site) (g.S.Held.seen c.take_next.new.site) c.entries.invariant.read c.take_next.ensures.read
