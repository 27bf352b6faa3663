use Rattle.std.proofs.Common.{rules, sym, ap, ◌∙◌, Some}
use Rattle.std.specs.FinMap as map
use Rattle.sr_base.specs.Order.{key_cmp}
use Rattle.sr_base.specs.Inner.Order.{key_cmp_total}
use Rattle.sr_base.proofs.Exact.{exact_keys}
use Rattle.sr_rows.proofs.Entries.{get-lookup, from_entries-given}
use Rattle.sr_rows.proofs.tree.Tree.replace.Goals as goal

pub returns-in_default-clause-before : goal.returns-in_default-clause-before
returns-in_default-clause-before c =
    ap (λ m. map.get m c.args.key.now) (sym c.self.view_is) ∙ get-lookup key_cmp_total c.self.inside.places.entries c.args.key.now ∙ sym c.in_default.ensures.value

pub returns-clause-before : goal.returns-clause-before
returns-clause-before c =
    ap (λ m. map.get m c.args.key.now) (sym c.self.view_is) ∙ get-lookup key_cmp_total c.self.inside.places.entries c.args.key.now ∙ sym c.in-Some.ensures.value
    ∙ ap Some (sym c.replace.ensures.value)

pub returns-clause-set : goal.returns-clause-set
returns-clause-set c =
    let es = c.self.inside.places.entries in
    let k = c.args.key.now in
    from_entries-given key_cmp_total exact_keys es (c.get_mut.follows.lender c.replace.new.dest).entries k c.replace.new.dest ((c.get_mut.follows.holds c.replace.new.dest).3 (search rules)).0
    ∙ ap (λ p. map.insert (map.from_entries {R = key_cmp} es) k p) c.replace.ensures.after ∙ ap (λ m. map.insert m k (Some c.args.row)) c.self.view_is
