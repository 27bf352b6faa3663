use Rattle.std.proofs.Common.{subst}
use Rattle.sr_catalog_schema.specs.Catalogs.{Lists}
use Rattle.sr_scan.specs.Inner.Views.{AreViews}
use Rattle.sr_send.specs.Inner.Stops.{ReadStop}
use Rattle.sr_send.specs.declared.fault.SendFault.TheVariants.{Memory}
use Rattle.sr_send.proofs.Endings.{not_begun}
use Rattle.sr_send.proofs.Results.{if_fault}
use Rattle.sr_send.proofs.telling.put_listed.Goals as goal

pub returns-in_err-views-clause-cause : goal.returns-in_err-views-clause-cause
returns-in_err-views-clause-cause g c =
    let seen = g.S.Held.seen c.args.site.now in
    if_fault (ReadStop c.args.db.now c.args.aim.now c.args.user.now seen seen) Memory c.from_residual.result c.from_residual.ensures.1 (not_begun c.args.db.now c.args.aim.now c.args.user.now seen c.requires.aim)

pub put_places-outcome-requires-clause-views : goal.put_places-outcome-requires-clause-views
put_places-outcome-requires-clause-views g c = subst (λ (l : Lists). AreViews l c.args.user.now c.in_ok-views.views) c.catalog.ensures.catalog c.in_ok-views.ensures.views
