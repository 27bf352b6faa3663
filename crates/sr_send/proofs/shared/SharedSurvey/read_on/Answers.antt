use Rattle.std.proofs.Common.{Option, subst}
use Rattle.std.specs.Prelude.{IfSome}
use Rattle.sr_survey.specs.declared.survey.Survey.{Survey}
use Rattle.sr_send.specs.Inner.Surveys.{IsSurveyOf}
use Rattle.sr_send.proofs.Known.{ended_after, posted_after}
use Rattle.sr_send.proofs.shared.SharedSurvey.read_on.Goals as goal

pub read_to_end-requires-clause-surveyed : goal.read_to_end-requires-clause-surveyed
read_to_end-requires-clause-surveyed g c =
    let before = g.S.Held.seen c.begin.new.site in
    subst (λ (o : Option Survey). IfSome o (λ s. IsSurveyOf c.args.db.now s before)) c.in-Some.is c.in_ok-begin.ensures.surveyed

pub returns-clause-posted : goal.returns-clause-posted
returns-clause-posted g c =
    posted_after (g.S.Held.seen c.args.site.now) (g.S.Held.seen c.begin.new.site) (g.S.Held.seen c.read_to_end.new.site) c.read_to_end.result c.in_ok-begin.ensures.posted c.read_to_end.ensures.posted

pub returns-clause-cause : goal.returns-clause-cause
returns-clause-cause g c =
    ended_after (g.S.Held.seen c.args.site.now) (g.S.Held.seen c.begin.new.site) (g.S.Held.seen c.read_to_end.new.site) c.read_to_end.result c.in_ok-begin.ensures.posted c.in_ok-begin.ensures.steady
    c.read_to_end.ensures.cause
