use Rattle.std.proofs.Common.{sym, subst}
use Rattle.sr_catalog_schema.specs.Catalogs.{Lists}
use Rattle.sr_scan.specs.Inner.Views.{AreViews}
use Rattle.sr_send.proofs.Told.{told_by_given}
use Rattle.sr_send.proofs.telling.told_by.Goals as goal

pub given_by-requires : goal.given_by-requires
given_by-requires c =
    let v = c.args.viewer.now in
    record { views = subst (λ (l : Lists). AreViews l v.user.now v.views.now) (sym c.catalog.ensures.catalog) c.requires.views }

pub returns-clause-told : goal.returns-clause-told
returns-clause-told c =
    let v = c.args.viewer.now in
    told_by_given v.survey.now.catalog c.catalog.result.now c.args.entry.now v.user.now c.args.end c.in_ok-ops.ops.items c.transaction_of.result c.catalog.ensures.catalog c.in_ok-ops.ensures.given c.transaction_of.ensures.found
