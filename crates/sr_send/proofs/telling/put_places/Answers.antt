use Rattle.std.proofs.Common.{◌≤◌, Option, subst, arith}
use Rattle.sr_base.specs.declared.offset.Offset.{Offset}
use Rattle.sr_send.specs.Inner.Places.{WentOn}
use Rattle.sr_send.specs.Inner.Stops.{ReadStop}
use Rattle.sr_send.proofs.Results.{if_fault}
use Rattle.sr_send.proofs.Told.{some_told, still_whole, telling_on, telling_start, telling_stopped, told_all}
use Rattle.sr_send.proofs.telling.put_places.Goals as goal

pub places-init : goal.places-init
places-init g c =
    let v = c.args.viewer.now in
    telling_start c.args.db.now c.args.aim.now v.survey.now v.user.now (g.S.Held.seen c.args.site.now) c.requires.tells c.requires.whole c.args.post.now c.requires.made

pub put_next-requires-clause-made : goal.put_next-requires-clause-made
put_next-requires-clause-made g c =
    let v = c.args.viewer.now in
    some_told c.args.db.now c.args.aim.now v.survey.now v.user.now (g.S.Held.seen c.args.site.now) c.requires.tells c.requires.whole c.places.post c.places.at (g.S.Held.seen c.places.site) c.places.invariant

pub put_next-requires-clause-begun : goal.put_next-requires-clause-begun
put_next-requires-clause-begun g c =
    let begun : c.args.viewer.now.survey.now.begin ≤ c.args.aim.now.prev.0 = c.requires.tells.begun in
    let past : c.args.aim.now.prev.0 ≤ c.places.at.0 = c.places.invariant.past in
    omega (arith, begun, past)

pub put_next-requires-clause-ends : goal.put_next-requires-clause-ends
put_next-requires-clause-ends g c = c.places.invariant.ends

pub put_next-requires-clause-whole : goal.put_next-requires-clause-whole
put_next-requires-clause-whole g c =
    let v = c.args.viewer.now in
    still_whole c.args.db.now c.args.aim.now v.survey.now v.user.now (g.S.Held.seen c.args.site.now) c.requires.tells c.requires.whole c.places.post c.places.at (g.S.Held.seen c.places.site) c.places.invariant

pub returns-in_err-end-clause-cause : goal.returns-in_err-end-clause-cause
returns-in_err-end-clause-cause g c =
    let v = c.args.viewer.now in
    let first = g.S.Held.seen c.args.site.now in
    let before = g.S.Held.seen c.places.site in
    let now = g.S.Held.seen c.put_next.new.site in
    if_fault (ReadStop c.args.db.now c.args.aim.now v.user.now first now) c.in_err-end.field-0.0 c.from_residual.result c.from_residual.ensures.1
    (telling_stopped c.args.db.now c.args.aim.now v.survey.now v.user.now first c.requires.tells c.requires.whole c.places.post c.places.at before now c.in_err-end.field-0.0 c.places.invariant c.in_err-end.ensures.cause)

pub places-preserved : goal.places-preserved
places-preserved g c =
    let v = c.args.viewer.now in
    let first = g.S.Held.seen c.args.site.now in
    let before = g.S.Held.seen c.places.site in
    let now = g.S.Held.seen c.put_next.new.site in
    telling_on c.args.db.now c.args.aim.now v.survey.now v.user.now first c.requires.tells c.requires.whole c.places.post c.put_next.new.post c.places.at c.in-Some.end before now c.places.invariant
    (subst (λ (found : Option Offset). WentOn c.args.db.now c.args.aim.now v.survey.now v.user.now c.places.post c.put_next.new.post c.places.at before now found) c.in-Some.is c.in_ok-end.ensures.went)

pub returns-clause-read : goal.returns-clause-read
returns-clause-read g c =
    let v = c.args.viewer.now in
    told_all c.args.db.now c.args.aim.now v.survey.now v.user.now (g.S.Held.seen c.args.site.now) c.requires.tells c.requires.whole c.places.post c.put_next.new.post c.places.at (g.S.Held.seen c.places.site)
    (g.S.Held.seen c.put_next.new.site) c.in_ok-end.field-0 c.places.invariant c.in_default.not-Some c.in_ok-end.ensures.went
