use Rattle.std.proofs.Common.{subst}
use Rattle.std.specs.Prelude.{IfSome}
use Rattle.sr_catalog_schema.specs.Catalogs.{Lists}
use Rattle.sr_send.specs.Inner.Starts.{BeginStop}
use Rattle.sr_send.specs.Inner.Surveys.{BeginsAt}
use Rattle.sr_send.proofs.Known.{begun_at_base, begun_behind, begun_made}
use Rattle.sr_send.proofs.Posts.{steady_on}
use Rattle.sr_send.proofs.Results.{if_fault}
use Rattle.sr_send.proofs.Starts.{later_stopped, read_on}
use Rattle.sr_send.proofs.surveying.begun.Goals as goal

pub returns-in_err-is_still-clause-cause : goal.returns-in_err-is_still-clause-cause
returns-in_err-is_still-clause-cause g c =
    let first = g.S.Held.seen c.args.site.now in
    let before = g.S.Held.seen c.end_before.new.site in
    let now = g.S.Held.seen c.is_still.new.site in
    if_fault (BeginStop first now) c.in_err-is_still.field-0.0 c.from_residual-in_err-is_still.result c.from_residual-in_err-is_still.ensures.1
    (later_stopped c.args.db.now c.args.latest.0 c.in_ok-from.from first before now c.in_err-is_still.field-0.0 c.in_ok-from.ensures.walked c.in_err-is_still.ensures.cause)

pub returns-then-branch-clause-surveyed : goal.returns-then-branch-clause-surveyed
returns-then-branch-clause-surveyed g c =
    let first = g.S.Held.seen c.args.site.now in
    let before = g.S.Held.seen c.end_before.new.site in
    let now = g.S.Held.seen c.is_still.new.site in
    begun_made c.args.db.now c.survey_from.result now (λ s. BeginsAt c.args.db.now.catalog c.in_ok-from.from.0 s)
    (λ s begins. begun_behind c.args.db.now s first before now c.args.latest.0 c.in_ok-from.from c.in_ok-from.ensures.walked c.in_ok-is_still.ensures.posted (c.in_ok-is_still.ensures.still c.if-branch.true) begins)
    (subst (λ (l : Lists). IfSome c.survey_from.result (λ s. BeginsAt l c.in_ok-from.from.0 s)) c.catalog.ensures.catalog c.survey_from.ensures.begins)

pub returns-then-branch-clause-posted : goal.returns-then-branch-clause-posted
returns-then-branch-clause-posted g c =
    read_on (g.S.Held.seen c.args.site.now) (g.S.Held.seen c.end_before.new.site) (g.S.Held.seen c.is_still.new.site) c.in_ok-from.ensures.walked.posted c.in_ok-is_still.ensures.posted

pub returns-then-branch-clause-steady : goal.returns-then-branch-clause-steady
returns-then-branch-clause-steady g c =
    steady_on (g.S.Held.seen c.args.site.now) (g.S.Held.seen c.end_before.new.site) (g.S.Held.seen c.is_still.new.site) c.in_ok-from.ensures.walked.steady c.in_ok-is_still.ensures.steady

pub returns-clause-surveyed : goal.returns-clause-surveyed
returns-clause-surveyed g c =
    let first = g.S.Held.seen c.args.site.now in
    let before = g.S.Held.seen c.end_before.new.site in
    let now = g.S.Held.seen c.is_still.new.site in
    begun_made c.args.db.now c.survey_from-2.result now (λ s. BeginsAt c.args.db.now.base_catalog c.base.result.0 s)
    (λ s begins. begun_at_base c.args.db.now s first before now c.base.result c.base.ensures.base begins)
    (subst (λ (l : Lists). IfSome c.survey_from-2.result (λ s. BeginsAt l c.base.result.0 s)) c.base_catalog.ensures.catalog c.survey_from-2.ensures.begins)

pub returns-clause-posted : goal.returns-clause-posted
returns-clause-posted g c =
    read_on (g.S.Held.seen c.args.site.now) (g.S.Held.seen c.end_before.new.site) (g.S.Held.seen c.is_still.new.site) c.in_ok-from.ensures.walked.posted c.in_ok-is_still.ensures.posted

pub returns-clause-steady : goal.returns-clause-steady
returns-clause-steady g c =
    steady_on (g.S.Held.seen c.args.site.now) (g.S.Held.seen c.end_before.new.site) (g.S.Held.seen c.is_still.new.site) c.in_ok-from.ensures.walked.steady c.in_ok-is_still.ensures.steady
