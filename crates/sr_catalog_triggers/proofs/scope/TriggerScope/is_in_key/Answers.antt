use Rattle.std.proofs.Common.{ap, ◌∙◌}
use Rattle.sr_catalog_schema.specs.Firsts.{has}
use Rattle.sr_catalog_schema.specs.Members.{key_names}
use Rattle.sr_catalog_schema.proofs.Indexed.{taken_alike}
use Rattle.sr_catalog_triggers.proofs.scope.TriggerScope.is_in_key.Goals as goal

pub returns : goal.returns
returns c = record {
  has = c.holds.ensures.taken
      ∙ (taken_alike (λ n. n) c.self.inside.key (key_names c.self.inside.table.now) c.self.invariant.3 c.args.name.now
      ∙ ap (λ s. has (key_names s.1) c.args.name.now) c.self.view_is);
}
