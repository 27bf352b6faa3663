use Rattle.std.proofs.Common.{subst}
use Rattle.sr_send.specs.Inner.Stops.{ReadStop}
use Rattle.sr_send.specs.Inner.Surveys.{IsWay}
use Rattle.sr_send.specs.declared.way.Way.{Way}
use Rattle.sr_send.specs.declared.fault.SendFault.TheVariants.{Memory}
use Rattle.sr_send.proofs.Endings.{not_begun}
use Rattle.sr_send.proofs.Results.{if_fault}
use Rattle.sr_send.proofs.Told.{nothing_told}
use Rattle.sr_send.proofs.unsent.put_surveyed.Goals as goal

pub returns-in_err-way_to-clause-cause : goal.returns-in_err-way_to-clause-cause
returns-in_err-way_to-clause-cause g c =
    let seen = g.S.Held.seen c.args.site.now in
    if_fault (ReadStop c.args.db.now c.args.aim.now c.args.user.now seen seen) Memory c.from_residual.result c.from_residual.ensures.1 (not_begun c.args.db.now c.args.aim.now c.args.user.now seen c.requires.aim)

pub returns-in-Nothing-clause-read : goal.returns-in-Nothing-clause-read
returns-in-Nothing-clause-read g c =
    let seen = g.S.Held.seen c.args.site.now in
    let way = subst (λ (w : Way). IsWay c.args.survey.now c.args.user.now c.args.aim.now.prev.0 w) c.in-Nothing.is c.in_ok-way_to.ensures.way in
    nothing_told c.args.db.now c.args.aim.now c.args.survey.now c.args.user.now c.args.post.now seen (λ told. c.requires.whole way.kept told) way c.requires.made

pub put_listed-requires-clause-tells : goal.put_listed-requires-clause-tells
put_listed-requires-clause-tells g c = subst (λ (w : Way). IsWay c.args.survey.now c.args.user.now c.args.aim.now.prev.0 w) c.in-Places.is c.in_ok-way_to.ensures.way

pub put_listed-requires-clause-whole : goal.put_listed-requires-clause-whole
put_listed-requires-clause-whole g c =
    let way = subst (λ (w : Way). IsWay c.args.survey.now c.args.user.now c.args.aim.now.prev.0 w) c.in-Places.is c.in_ok-way_to.ensures.way in
    λ told. c.requires.whole way.kept told
