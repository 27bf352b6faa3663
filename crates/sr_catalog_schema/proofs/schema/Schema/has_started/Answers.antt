use Rattle.std.proofs.Common.{◌&&◌, false, sym, ap, ◌∙◌}
use Rattle.std.specs.List.{list_any}
use Rattle.std.specs.Option.{option_map_or}
use Rattle.sr_catalog_schema.specs.Catalogs.{Lists}
use Rattle.sr_catalog_schema.specs.Rules.{is_of}
use Rattle.sr_catalog_schema.proofs.Single.{any_both}
use Rattle.sr_catalog_schema.proofs.schema.Schema.has_started.Goals as goal

pub returns : goal.returns
returns c = record {
  started = c.is_started.ensures
      ∙ (ap (λ o. option_map_or (λ s. s.started) o false) c.in_ok-found.ensures.found
      ∙ (sym (any_both (is_of c.args.rule.now) (λ s. s.started) c.self.inside.subscriptions c.in_ok-found.ensures.single)
      ∙ ap (λ (l : Lists). list_any (λ s. is_of c.args.rule.now s && s.started) l.subscriptions) c.self.view_is));
}
