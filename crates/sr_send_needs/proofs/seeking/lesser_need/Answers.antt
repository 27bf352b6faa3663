use Rattle.std.proofs.Common.{ℕ, ◌≤◌, Option, sym, subst}
use Rattle.sr_send_needs.proofs.Seekings.{limit_is, lesser_is}
use Rattle.sr_send_needs.proofs.seeking.lesser_need.Goals as goal
use Rattle.sr_send_needs.specs.Inner.Surveying.{SurveysWhole}
use Rattle.sr_survey.specs.declared.survey.Survey.{Survey}

pub need_scanned-requires-clause-sent : goal.need_scanned-requires-clause-sent
need_scanned-requires-clause-sent g c = subst (λ (m : ℕ). c.args.start.at.0 ≤ m) (sym c.confirmed-sent.ensures) c.requires.confirmed

pub need_surveyed-requires-clause-whole : goal.need_surveyed-requires-clause-whole
need_surveyed-requires-clause-whole g c = subst (λ (o : Option Survey). SurveysWhole c.args.db.now o (g.S.Held.seen c.args.site.now)) c.in-Some.is c.requires.whole

pub need_surveyed-requires-clause-sent : goal.need_surveyed-requires-clause-sent
need_surveyed-requires-clause-sent g c = subst (λ (m : ℕ). c.args.start.at.0 ≤ m) (sym c.confirmed-sent.ensures) c.requires.confirmed

pub returns-then-limit-start-clause-least : goal.returns-then-limit-start-clause-least
returns-then-limit-start-clause-least g c =
    limit_is c.args.db.now c.args.start c.args.user.now c.args.limit.0 (g.S.Held.seen c.args.site.now) c.requires.start c.requires.confirmed c.if-limit-start.true

pub returns-in-None-clause-least : goal.returns-in-None-clause-least
returns-in-None-clause-least g c =
    lesser_is c.args.db.now c.args.user.now c.confirmed-sent.result.0 c.args.limit.0 (g.S.Held.seen c.args.site.now) c.need_scanned.result c.confirmed-sent.ensures c.need_scanned.ensures.least

pub returns-in-Some-clause-least : goal.returns-in-Some-clause-least
returns-in-Some-clause-least g c =
    lesser_is c.args.db.now c.args.user.now c.confirmed-sent.result.0 c.args.limit.0 (g.S.Held.seen c.args.site.now) c.need_surveyed.result c.confirmed-sent.ensures c.need_surveyed.ensures.least
