use Rattle.std.proofs.Common.{Option, Result, refl, sym, subst, arith}
use Rattle.std.specs.Prelude.{IfOk, IfErr, IfSome, ◌<◌, ◌≤◌}
use Rattle.sr_base.specs.declared.offset.Offset.{Offset}
use Rattle.sr_survey.specs.Inner.Surveyed.{IsNext}
use Rattle.sr_survey_places.specs.declared.place.Place.{Place}
use Rattle.sr_send.specs.Inner.Places.{NextStop, WentOn}
use Rattle.sr_send.specs.declared.fault.SendFault.{SendFault}
use Rattle.sr_send.specs.declared.fault.SendFault.TheVariants.{Memory}
use Rattle.sr_send.proofs.Posts.{posted_none, same_counts}
use Rattle.sr_send.proofs.Results.{if_fault}
use Rattle.sr_send.proofs.Told.{further_next, next_short, place_known, stopped_next, went_next}
use Rattle.sr_send.proofs.telling.put_next.Goals as goal

pub returns-in_err-next-clause-cause : goal.returns-in_err-next-clause-cause
returns-in_err-next-clause-cause g c =
    let v = c.args.viewer.now in
    let seen = g.S.Held.seen c.args.site.now in
    if_fault (NextStop c.args.db.now c.args.aim.now v.survey.now v.user.now c.args.post.now c.args.at seen seen) Memory c.from_residual.result c.from_residual.ensures.1
    (next_short c.args.db.now c.args.aim.now v.survey.now v.user.now c.args.post.now c.args.at seen c.requires.aim)

pub returns-in-None-clause-went : goal.returns-in-None-clause-went
returns-in-None-clause-went g c =
    let v = c.args.viewer.now in
    let seen = g.S.Held.seen c.args.site.now in
    record { same = refl; next = subst (λ (o : Option Place). IsNext v.survey.now v.user.now c.args.at.0 o) c.in-None.is c.in_ok-next.ensures.next; posted = posted_none seen; steady = same_counts seen }

pub put_place-outcome-requires-clause-ends : goal.put_place-outcome-requires-clause-ends
put_place-outcome-requires-clause-ends g c =
    let v = c.args.viewer.now in
    let next = subst (λ (o : Option Place). IsNext v.survey.now v.user.now c.args.at.0 o) c.in-Some.is c.in_ok-next.ensures.next in
    let before : c.args.post.now.end.0 ≤ c.args.at.0 = c.requires.ends in
    let later : c.args.at.0 < c.in-Some.place.end = next.1 in
    omega arith

pub put_place-outcome-requires-clause-there : goal.put_place-outcome-requires-clause-there
put_place-outcome-requires-clause-there g c =
    let v = c.args.viewer.now in
    place_known c.args.db.now v.survey.now v.user.now c.args.at.0 c.in-Some.place (g.S.Held.seen c.args.site.now) c.requires.whole c.requires.begun
    (subst (λ (o : Option Place). IsNext v.survey.now v.user.now c.args.at.0 o) c.in-Some.is c.in_ok-next.ensures.next)

pub returns-in-Some-clause-went : goal.returns-in-Some-clause-went
returns-in-Some-clause-went g c =
    let v = c.args.viewer.now in
    let before = g.S.Held.seen c.args.site.now in
    let now = g.S.Held.seen c.put_place-outcome.new.site in
    let next = subst (λ (o : Option Place). IsNext v.survey.now v.user.now c.args.at.0 o) c.in-Some.is c.in_ok-next.ensures.next in
    subst (λ (r : Result (Option Offset) SendFault). IfOk r (WentOn c.args.db.now c.args.aim.now v.survey.now v.user.now c.args.post.now c.put_place-outcome.new.post c.args.at before now)) (sym c.stepped_to.ensures)
    (went_next c.args.db.now c.args.aim.now v.survey.now v.user.now c.args.post.now c.put_place-outcome.new.post c.args.at c.in-Some.place before now next c.put_place-outcome.result c.put_place-outcome.ensures.put)

pub returns-in-Some-clause-further : goal.returns-in-Some-clause-further
returns-in-Some-clause-further g c =
    let v = c.args.viewer.now in
    let before = g.S.Held.seen c.args.site.now in
    let now = g.S.Held.seen c.put_place-outcome.new.site in
    let next = subst (λ (o : Option Place). IsNext v.survey.now v.user.now c.args.at.0 o) c.in-Some.is c.in_ok-next.ensures.next in
    subst (λ (r : Result (Option Offset) SendFault). IfOk r (λ found. IfSome found (λ end. c.args.at.0 < end.0))) (sym c.stepped_to.ensures)
    (further_next c.args.db.now c.args.aim.now v.survey.now v.user.now c.args.post.now c.put_place-outcome.new.post c.args.at c.in-Some.place before now next c.put_place-outcome.result)

pub returns-in-Some-clause-cause : goal.returns-in-Some-clause-cause
returns-in-Some-clause-cause g c =
    let v = c.args.viewer.now in
    let before = g.S.Held.seen c.args.site.now in
    let now = g.S.Held.seen c.put_place-outcome.new.site in
    let next = subst (λ (o : Option Place). IsNext v.survey.now v.user.now c.args.at.0 o) c.in-Some.is c.in_ok-next.ensures.next in
    subst (λ (r : Result (Option Offset) SendFault). IfErr r (NextStop c.args.db.now c.args.aim.now v.survey.now v.user.now c.args.post.now c.args.at before now)) (sym c.stepped_to.ensures)
    (stopped_next c.args.db.now c.args.aim.now v.survey.now v.user.now c.args.post.now c.put_place-outcome.new.post c.args.at c.in-Some.place before now next c.put_place-outcome.result c.put_place-outcome.ensures.cause)
