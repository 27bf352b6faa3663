use Rattle.std.proofs.Common.{ap, ◌∙◌}
use Rattle.std.specs.Prelude.{is_some}
use Rattle.std.specs.List.{list_any}
use Rattle.sr_catalog_schema.specs.Catalogs.{Lists}
use Rattle.sr_catalog_schema.specs.Rules.{is_of}
use Rattle.sr_catalog_schema.proofs.Single.{any_found}
use Rattle.sr_catalog_schema.proofs.schema.Schema.has_subscription.Goals as goal

pub returns : goal.returns
returns c = record {
  there = c.is_there.ensures
      ∙ (ap is_some c.in_ok-found.ensures.found
      ∙ (any_found (is_of c.args.rule.now) c.self.inside.subscriptions ∙ ap (λ (l : Lists). list_any (is_of c.args.rule.now) l.subscriptions) c.self.view_is));
}
