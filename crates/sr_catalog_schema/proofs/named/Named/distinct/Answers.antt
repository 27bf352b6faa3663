use Rattle.std.proofs.Common.{refl, subst}
use Rattle.std.specs.Prelude.{vec_items, bytes_eq}
use Rattle.sr_catalog_schema.specs.Inner.Singles.{IsSingle}
use Rattle.sr_catalog_schema.proofs.Single.{keyed_single}
use Rattle.sr_catalog_schema.proofs.named.Named.distinct.Goals as goal

pub returns-clause-single : goal.returns-clause-single
returns-clause-single g c = λ name.
    subst (IsSingle (λ t. bytes_eq name (g.T.HasName.name_of t))) c.self.view_is
    (keyed_single vec_items _ (λ x y. refl) g.T.HasName.name_of c.self.inside.names.keys c.self.inside.items.items c.self.invariant c.len-count.ensures.unique name)
