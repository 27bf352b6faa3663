use Rattle.std.proofs.Common.{sym, ap, ◌∙◌}
use Rattle.std.specs.FinMap as map
use Rattle.sr_base.specs.Inner.Order.{key_cmp_total}
use Rattle.sr_base.proofs.Exact.{exact_keys}
use Rattle.sr_rows.proofs.Entries.{get-lookup, from_entries-given}
use Rattle.sr_rows.proofs.tree.Tree.insert.Goals as goal

pub returns-clause-before : goal.returns-clause-before
returns-clause-before c = c.in_ok-insert.ensures.old ∙ sym (get-lookup key_cmp_total c.self.inside.places.entries c.args.key) ∙ ap (λ m. map.get m c.args.key) c.self.view_is

pub returns-clause-ok : goal.returns-clause-ok
returns-clause-ok c = from_entries-given key_cmp_total exact_keys c.self.inside.places.entries c.insert.new.self.entries c.args.key c.args.place c.in_ok-insert.ensures.updates.0 ∙ ap (λ m. map.insert m c.args.key c.args.place) c.self.view_is
