use Rattle.std.proofs.Common.{sym, ap, ◌∙◌}
use Rattle.std.specs.FinMap as map
use Rattle.sr_base.specs.Inner.Order.{key_cmp_total}
use Rattle.sr_rows.proofs.Entries.{get-lookup}
use Rattle.sr_rows.proofs.tree.Tree.get.Goals as goal

pub returns : goal.returns
returns c = record {
  place = c.get.ensures.value ∙ sym (get-lookup key_cmp_total c.self.inside.places.entries c.args.key.now) ∙ ap (λ m. map.get m c.args.key.now) c.self.view_is;
}
