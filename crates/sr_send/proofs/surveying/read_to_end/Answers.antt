use Rattle.std.proofs.Common.{Option, sym, subst}
use Rattle.std.specs.Prelude.{IfSome}
use Rattle.sr_base.specs.declared.offset.Offset.{Offset}
use Rattle.sr_send.specs.Inner.Starts.{BeginStop}
use Rattle.sr_send.specs.Inner.Surveys.{SurveysTo}
use Rattle.sr_send.proofs.Known.{none_is}
use Rattle.sr_send.proofs.Posts.{posted_none, same_counts, steady_on}
use Rattle.sr_send.proofs.Results.{if_fault}
use Rattle.sr_send.proofs.Starts.{begin_stopped, read_on}
use Rattle.sr_send.proofs.surveying.read_to_end.Goals as goal

pub entries-init : goal.entries-init
entries-init g c =
    let seen = g.S.Held.seen c.args.site.now in
    record { posted = posted_none seen; steady = same_counts seen; surveyed = record { end_is = λ stays. sym c.end-at.ensures.end; knows = c.requires.surveyed } }

pub returns-in_err-end-clause-cause : goal.returns-in_err-end-clause-cause
returns-in_err-end-clause-cause g c =
    let first = g.S.Held.seen c.args.site.now in
    let before = g.S.Held.seen c.entries.site in
    let now = g.S.Held.seen c.take_next.new.site in
    if_fault (BeginStop first now) c.in_err-end.field-0.0 c.from_residual.result c.from_residual.ensures.1
    (begin_stopped first before now c.in_err-end.field-0.0 c.entries.invariant.posted c.entries.invariant.steady c.take_next.ensures.posted c.take_next.ensures.mail c.in_err-end.ensures.cause)

pub entries-preserved : goal.entries-preserved
entries-preserved g c =
    let first = g.S.Held.seen c.args.site.now in
    let before = g.S.Held.seen c.entries.site in
    let now = g.S.Held.seen c.take_next.new.site in
    record {
      posted = read_on first before now c.entries.invariant.posted c.take_next.ensures.posted;
      steady = steady_on first before now c.entries.invariant.steady c.in_ok-end.ensures.steady;
      surveyed = subst (λ (found : Option Offset). IfSome found (λ end. SurveysTo c.args.db.now c.take_next.new.survey end now)) c.in-Some.is c.in_ok-end.ensures.surveyed;
    }

pub returns-clause-whole : goal.returns-clause-whole
returns-clause-whole g c = c.in_ok-end.ensures.whole (none_is c.in_ok-end.field-0 c.in_default.not-Some)

pub returns-clause-posted : goal.returns-clause-posted
returns-clause-posted g c =
    read_on (g.S.Held.seen c.args.site.now) (g.S.Held.seen c.entries.site) (g.S.Held.seen c.take_next.new.site) c.entries.invariant.posted c.take_next.ensures.posted

pub returns-clause-steady : goal.returns-clause-steady
returns-clause-steady g c =
    steady_on (g.S.Held.seen c.args.site.now) (g.S.Held.seen c.entries.site) (g.S.Held.seen c.take_next.new.site) c.entries.invariant.steady c.in_ok-end.ensures.steady
