use Rattle.std.proofs.Common.{ap, ◌∙◌}
use Rattle.sr_catalog_schema.specs.Names.{taken}
use Rattle.sr_catalog_schema.proofs.Indexed.{taken_alike}
use Rattle.sr_catalog_triggers.specs.Triggers.{variable_name}
use Rattle.sr_catalog_triggers.proofs.scope.TriggerScope.has_variable.Goals as goal

pub returns : goal.returns
returns c = record {
  taken = c.holds.ensures.taken
      ∙ (taken_alike variable_name c.self.inside.variables c.self.inside.rule.now.variables c.self.invariant.0 c.args.name.now
      ∙ ap (λ s. taken variable_name c.args.name.now s.0.variables) c.self.view_is);
}
