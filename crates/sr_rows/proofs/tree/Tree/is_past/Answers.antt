use Rattle.std.proofs.Common.{IsTrue, sym, ap, subst, ◌∙◌}
use Rattle.std.specs.BTreeMap as tree
use Rattle.std.specs.FinMap as map
use Rattle.std.specs.Ordering.{is_lt}
use Rattle.sr_base.specs.Order.{key_cmp}
use Rattle.sr_base.specs.Inner.Order.{key_cmp_total}
use Rattle.sr_rows.proofs.Entries.{get-lookup, none_past}
use Rattle.sr_rows.proofs.tree.Tree.is_past.Goals as goal

pub returns-in-Some : goal.returns-in-Some
returns-in-Some c = record {
  none = λ past. sym (ap (λ m. map.get m c.args.key.now) c.self.view_is) ∙ get-lookup key_cmp_total c.self.inside.places.entries c.args.key.now
      ∙ none_past (tree.get key_cmp c.self.inside.places c.args.key.now) (is_lt (key_cmp c.in-Some.last.now c.args.key.now)) (c.in-Some.ensures.greatest c.args.key.now) (subst IsTrue (c.is_lt.ensures ∙ ap is_lt c.cmp.ensures) past);
}
