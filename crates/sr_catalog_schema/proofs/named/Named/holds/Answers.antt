use Rattle.std.proofs.Common.{ap, ◌∙◌}
use Rattle.std.specs.Prelude.{vec_items}
use Rattle.sr_catalog_schema.specs.Names.{taken}
use Rattle.sr_catalog_schema.proofs.Places.{taken-names}
use Rattle.sr_catalog_schema.proofs.named.Named.holds.Goals as goal

pub returns : goal.returns
returns g c = record {
  taken = c.contains.ensures
      ∙ (taken-names vec_items g.T.HasName.name_of c.bytes.result.now c.self.inside.names.keys c.self.inside.items.items c.self.invariant
      ∙ (ap (λ n. taken g.T.HasName.name_of n c.self.inside.items.items) c.bytes.ensures.bytes
      ∙ ap (taken g.T.HasName.name_of c.args.name.now) c.self.view_is));
}
