use Rattle.std.proofs.Common.{subst}
use Rattle.sr_send_needs.proofs.Looks.{none_listed}
use Rattle.sr_send_needs.proofs.seeking.need_surveyed.Goals as goal
use Rattle.sr_send_needs.specs.Inner.Listing.{IsWay}
use Rattle.sr_send_needs.specs.declared.way.Way.{Way}

pub returns-in-Nothing-clause-least : goal.returns-in-Nothing-clause-least
returns-in-Nothing-clause-least g c =
    none_listed c.args.db.now c.args.survey.now c.args.user.now c.args.sent.0 c.args.limit (g.S.Held.seen c.args.site.now) c.requires.whole c.requires.limit.1
    (subst (λ (w : Way). IsWay c.args.survey.now c.args.user.now c.args.sent.0 c.args.limit.0 w) c.in-Nothing.is c.in_ok-way_to.ensures.way)
