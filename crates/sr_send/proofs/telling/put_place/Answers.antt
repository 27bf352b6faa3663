use Rattle.sr_send.specs.Inner.Places.{PlaceStop}
use Rattle.sr_send.proofs.Results.{if_fault}
use Rattle.sr_send.proofs.Told.{place_later, place_put, place_stopped, place_unread}
use Rattle.sr_send.proofs.telling.put_place.Goals as goal

pub returns-in_err-found-clause-cause : goal.returns-in_err-found-clause-cause
returns-in_err-found-clause-cause g c =
    let v = c.args.viewer.now in
    let before = g.S.Held.seen c.args.site.now in
    let now = g.S.Held.seen c.found_at.new.site in
    if_fault (PlaceStop c.args.db.now c.args.aim.now v.survey.now v.user.now c.args.post.now c.args.place before now) c.in_err-found.field-0.0 c.from_residual.result c.from_residual.ensures.1
    (place_unread c.args.db.now c.args.aim.now v.survey.now v.user.now c.args.post.now c.args.place before now c.in_err-found.field-0.0 c.requires.aim c.found_at.ensures.posted c.found_at.ensures.mail c.in_err-found.ensures.cause)

pub push_found-requires-clause-later : goal.push_found-requires-clause-later
push_found-requires-clause-later g c = place_later c.args.aim.now.prev.0 c.args.post.now.end c.args.place c.in_ok-found.found c.requires.ends c.in_ok-found.ensures.at

pub returns-clause-put : goal.returns-clause-put
returns-clause-put g c =
    let v = c.args.viewer.now in
    place_put c.args.db.now c.args.aim.now v.survey.now v.user.now c.args.post.now c.args.place (g.S.Held.seen c.args.site.now) (g.S.Held.seen c.found_at.new.site) (g.S.Held.seen c.push_found.new.site) c.push_found.new.post
    c.in_ok-found.found c.in_ok-found.ensures.told c.in_ok-found.ensures.at c.requires.ends c.found_at.ensures.posted c.in_ok-found.ensures.steady c.push_found.result c.push_found.ensures.pushed c.push_found.ensures.end

pub returns-clause-cause : goal.returns-clause-cause
returns-clause-cause g c =
    let v = c.args.viewer.now in
    place_stopped c.args.db.now c.args.aim.now v.survey.now v.user.now c.args.post.now c.args.place (g.S.Held.seen c.args.site.now) (g.S.Held.seen c.found_at.new.site) (g.S.Held.seen c.push_found.new.site)
    c.in_ok-found.found c.in_ok-found.ensures.told c.found_at.ensures.posted c.in_ok-found.ensures.steady c.push_found.result c.push_found.ensures.cause
