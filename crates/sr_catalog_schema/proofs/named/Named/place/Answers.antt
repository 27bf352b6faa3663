use Rattle.std.proofs.Common.{ap, ◌∙◌}
use Rattle.std.specs.Prelude.{vec_items}
use Rattle.sr_catalog_schema.specs.Names.{place_of}
use Rattle.sr_catalog_schema.proofs.Places.{position-names}
use Rattle.sr_catalog_schema.proofs.named.Named.place.Goals as goal

pub returns : goal.returns
returns g c = record {
  place = c.get_index_of.ensures.index
      ∙ (position-names vec_items g.T.HasName.name_of c.bytes.result.now c.self.inside.names.keys c.self.inside.items.items c.self.invariant
      ∙ (ap (λ n. place_of g.T.HasName.name_of n c.self.inside.items.items) c.bytes.ensures.bytes
      ∙ ap (place_of g.T.HasName.name_of c.args.name.now) c.self.view_is));
}
