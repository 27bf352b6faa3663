use Rattle.std.proofs.Common.{sym, ap, ◌∙◌}
use Rattle.std.specs.FinMap as map
use Rattle.sr_rows.proofs.Cursors.{entries_again}
use Rattle.sr_rows.proofs.tree.Tree.iter.Goals as goal

pub returns : goal.returns
returns c = record {
  all = c.iter.ensures.rest ∙ sym (entries_again c.self.inside.places.entries c.iter.ensures.ordered) ∙ ap map.entries c.self.view_is;
}
