use Rattle.std.proofs.Common.{map, ap, sym, subst, ◌∙◌}
use Rattle.std.specs.Prelude.{vec_items, remove}
use Rattle.std.specs.List.{AllByRecursion}
use Rattle.sr_catalog_schema.specs.Inner.Keys.{key_of, IsRanged}
use Rattle.sr_catalog_schema.proofs.Single.{map-remove, all_remove}
use Rattle.sr_catalog_schema.proofs.listed.Listed.remove_at.Goals as goal

pub invariant_of-self : goal.invariant_of-self
invariant_of-self c =
    let keys = c.self.inside.rules.keys in
    let items = c.self.inside.items.items in
    record {
      keys_are = ap (map vec_items) c.shift_remove_index-key.ensures.keys
          ∙ (map-remove vec_items keys c.args.place
          ∙ (ap (λ l. remove l c.args.place) c.self.invariant.keys_are
          ∙ (sym (map-remove key_of items c.args.place) ∙ ap (map key_of) (sym c.remove-item.ensures.items))));
      ranged = subst (AllByRecursion IsRanged) (sym c.remove-item.ensures.items) (all_remove IsRanged items c.args.place c.self.invariant.ranged);
    }
