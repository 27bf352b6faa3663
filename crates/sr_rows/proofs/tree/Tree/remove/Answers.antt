use Rattle.std.proofs.Common.{ap, ◌∙◌}
use Rattle.std.specs.FinMap as map
use Rattle.sr_base.specs.Inner.Order.{key_cmp_total}
use Rattle.sr_base.proofs.Exact.{exact_keys}
use Rattle.sr_rows.proofs.Entries.{from_entries-removed}
use Rattle.sr_rows.proofs.tree.Tree.remove.Goals as goal

pub returns : goal.returns
returns c = record {
  removed = from_entries-removed key_cmp_total exact_keys c.self.inside.places.entries c.remove.new.self.entries c.args.key.now c.remove.ensures.updates.0 ∙ ap (λ m. map.remove m c.args.key.now) c.self.view_is;
}
