use Rattle.std.proofs.Common.{ap, ◌∙◌}
use Rattle.sr_catalog_schema.specs.Names.{taken}
use Rattle.sr_catalog_schema.proofs.Indexed.{taken_alike}
use Rattle.sr_catalog_triggers.specs.Triggers.{alias_name}
use Rattle.sr_catalog_triggers.proofs.scope.TriggerScope.has_alias.Goals as goal

pub returns : goal.returns
returns c = record {
  taken = c.holds.ensures.taken
      ∙ (taken_alike alias_name c.self.inside.aliases c.self.inside.rule.now.aliases c.self.invariant.1 c.args.name.now
      ∙ ap (λ s. taken alias_name c.args.name.now s.0.aliases) c.self.view_is);
}
