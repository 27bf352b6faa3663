use Rattle.std.proofs.Common.{◌<◌, ◌≤◌, Bool, true, false, Option, arith, subst}
use Rattle.sr_send_needs.proofs.Followed.{if_fault, read_on, search_from}
use Rattle.sr_send_needs.proofs.Looks.{look_ends, look_on, look_place, look_start, look_stops, none_found}
use Rattle.sr_send_needs.proofs.Listings.{within_some}
use Rattle.sr_send_needs.specs.Inner.Listing.{FindsAt, IsNextWithin}
use Rattle.sr_send_needs.specs.Inner.Reading.{SearchCause}
use Rattle.sr_send_needs.proofs.listing.need_among.Goals as goal
use Rattle.sr_survey_places.specs.declared.place.Place.{Place}

pub places-init : goal.places-init
places-init g c =
    let v = c.args.viewer.now in
    look_start c.args.db.now v.survey.now v.user.now c.args.sent.0 c.args.limit (g.S.Held.seen c.args.site.now) c.requires.tells c.requires.whole

pub gives_at-requires-clause-there : goal.gives_at-requires-clause-there
gives_at-requires-clause-there g c =
    let v = c.args.viewer.now in
    let n = subst (λ (o : Option Place). IsNextWithin v.survey.now v.user.now c.places.at.0 c.args.limit.0 o) c.in-Some.is c.in_ok-place.ensures.next in
    look_place c.args.db.now v.survey.now v.user.now c.args.sent.0 c.args.limit (g.S.Held.seen c.args.site.now) c.requires.tells c.requires.whole c.places.at.0 (g.S.Held.seen c.places.site) c.places.invariant c.in-Some.place n

pub gives_at-requires-clause-within : goal.gives_at-requires-clause-within
gives_at-requires-clause-within g c =
    let v = c.args.viewer.now in
    let n = subst (λ (o : Option Place). IsNextWithin v.survey.now v.user.now c.places.at.0 c.args.limit.0 o) c.in-Some.is c.in_ok-place.ensures.next in
    let early : c.in-Some.place.start < c.args.limit.0 = (within_some v.survey.now v.user.now c.places.at.0 c.args.limit.0 c.in-Some.place n).1 in
    let within : c.args.limit.0 ≤ c.args.db.now.log.end = c.requires.limit.1 in
    omega (arith, early, within)

pub returns-in_err-gives_at-clause-read : goal.returns-in_err-gives_at-clause-read
returns-in_err-gives_at-clause-read g c = read_on (g.S.Held.seen c.args.site.now) (g.S.Held.seen c.places.site) (g.S.Held.seen c.gives_at.new.site) c.places.invariant.read c.gives_at.ensures.read

pub returns-in_err-gives_at-clause-cause : goal.returns-in_err-gives_at-clause-cause
returns-in_err-gives_at-clause-cause g c =
    let first = g.S.Held.seen c.args.site.now in
    let before = g.S.Held.seen c.places.site in
    let now = g.S.Held.seen c.gives_at.new.site in
    if_fault (SearchCause c.args.db.now first now) c.in_err-gives_at.field-0.0 c.from_residual-in_err-gives_at.result c.from_residual-in_err-gives_at.ensures.1
    (search_from c.args.db.now first before now c.in_err-gives_at.field-0.0 c.places.invariant.read c.places.invariant.steady c.in_err-gives_at.ensures.cause)

pub returns-then-branch-clause-least : goal.returns-then-branch-clause-least
returns-then-branch-clause-least g c =
    let v = c.args.viewer.now in
    let before = g.S.Held.seen c.places.site in
    let n = subst (λ (o : Option Place). IsNextWithin v.survey.now v.user.now c.places.at.0 c.args.limit.0 o) c.in-Some.is c.in_ok-place.ensures.next in
    look_stops c.args.db.now v.survey.now v.user.now c.args.sent.0 c.args.limit (g.S.Held.seen c.args.site.now) c.requires.tells c.requires.whole c.places.at.0 before c.places.invariant c.in-Some.place n
    (subst (λ (b : Bool). FindsAt c.args.db.now v.survey.now v.user.now c.in-Some.place before b) c.if-branch.true c.in_ok-gives_at.ensures.found)

pub returns-then-branch-clause-within : goal.returns-then-branch-clause-within
returns-then-branch-clause-within g c =
    let v = c.args.viewer.now in
    let n = subst (λ (o : Option Place). IsNextWithin v.survey.now v.user.now c.places.at.0 c.args.limit.0 o) c.in-Some.is c.in_ok-place.ensures.next in
    let early : c.in-Some.place.start < c.args.limit.0 = (within_some v.survey.now v.user.now c.places.at.0 c.args.limit.0 c.in-Some.place n).1 in
    (c.in_ok-gives_at.ensures.from_base c.if-branch.true, omega (arith, early))

pub returns-then-branch-clause-read : goal.returns-then-branch-clause-read
returns-then-branch-clause-read g c = read_on (g.S.Held.seen c.args.site.now) (g.S.Held.seen c.places.site) (g.S.Held.seen c.gives_at.new.site) c.places.invariant.read c.gives_at.ensures.read

pub places-preserved : goal.places-preserved
places-preserved g c =
    let v = c.args.viewer.now in
    let before = g.S.Held.seen c.places.site in
    let n = subst (λ (o : Option Place). IsNextWithin v.survey.now v.user.now c.places.at.0 c.args.limit.0 o) c.in-Some.is c.in_ok-place.ensures.next in
    look_on c.args.db.now v.survey.now v.user.now c.args.sent.0 c.args.limit (g.S.Held.seen c.args.site.now) c.requires.tells c.requires.whole c.places.at.0 before c.places.invariant c.in-Some.place (g.S.Held.seen c.gives_at.new.site) n
    (subst (λ (b : Bool). FindsAt c.args.db.now v.survey.now v.user.now c.in-Some.place before b) c.if-branch.false c.in_ok-gives_at.ensures.found) c.gives_at.ensures.read c.in_ok-gives_at.ensures.steady

pub returns-clause-least : goal.returns-clause-least
returns-clause-least g c =
    let v = c.args.viewer.now in
    let n = none_found v.survey.now v.user.now c.places.at.0 c.args.limit.0 c.in_ok-place.field-0 c.in_default.not-Some c.in_ok-place.ensures.next in
    look_ends c.args.db.now v.survey.now v.user.now c.args.sent.0 c.args.limit (g.S.Held.seen c.args.site.now) c.requires.tells c.requires.whole c.places.at.0 (g.S.Held.seen c.places.site) c.places.invariant c.requires.limit.1 n
