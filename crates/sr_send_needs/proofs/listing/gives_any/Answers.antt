use Rattle.std.proofs.Common.{sym, subst}
use Rattle.sr_catalog_schema.specs.Catalogs.{Lists}
use Rattle.sr_scan.specs.Inner.Views.{AreViews}
use Rattle.sr_send_needs.proofs.listing.gives_any.Goals as goal

pub given_by-requires : goal.given_by-requires
given_by-requires c =
    let v = c.args.viewer.now in
    record { views = subst (λ (l : Lists). AreViews l v.user.now v.views.now) (sym c.catalog.ensures.catalog) c.requires.views }
