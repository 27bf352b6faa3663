use Rattle.std.proofs.Common.{◌<◌, length, ap, sym, subst, ◌∙◌}
use Rattle.std.proofs.Math.Seq.{map-set_same}
use Rattle.sr_catalog_schema.specs.Inner.Keys.{key_of, IsRanged}
use Rattle.sr_catalog_schema.proofs.Single.{all_set, all_at}
use Rattle.sr_catalog_schema.proofs.listed.Listed.set_started.Goals as goal

pub invariant_of-self : goal.invariant_of-self
invariant_of-self c =
    let items = c.self.inside.items.items in
    let was = c.index_mut.result.now in
    record {
      keys_are = c.self.invariant.keys_are ∙ sym (map-set_same key_of items c.args.place (record was { started = c.args.started }) was (ap key_of c.index_mut.ensures.value));
      ranged = all_set IsRanged items c.args.place (record was { started = c.args.started })
          (subst IsRanged (sym c.index_mut.ensures.value) (all_at IsRanged items c.args.place was (subst (λ l. c.args.place < length l) (sym c.self.view_is) c.requires) c.self.invariant.ranged)) c.self.invariant.ranged;
    }
