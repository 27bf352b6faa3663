use Rattle.std.proofs.Common.{rules, ◌≡◌, false, ◌∷◌, map, ap, sym, ◌∙◌}
use Rattle.std.specs.BTreeSet.{contains}
use Rattle.sr_base.specs.Order.{name_cmp}
use Rattle.sr_logform.proofs.Distinct.{are_left, starts, goes_on}
use Rattle.sr_logform.proofs.names.are_many_distinct.Goals as goal

pub items-init : goal.items-init
items-init g c = starts _ _ c.new-seen.ensures.empty

pub items-preserved : goal.items-preserved
items-preserved g c =
    let left : c.items.left.now ≡ c.in-Some.item.now ∷ c.in-Some.after.now = search rules in
    let name : c.in_ok-name.name ≡ g.T.Named.name_of c.in-Some.item.now = search rules in
    let absent : contains name_cmp c.items.seen c.in_ok-name.name ≡ false = search rules in
    let names = map g.T.Named.name_of c.in-Some.after.now in
    goes_on _ c.items.seen c.insert.new.self c.in_ok-name.name names absent c.in_ok-insert.ensures.updates
    (c.items.invariant ∙ ap (λ items. are_left c.items.seen (map g.T.Named.name_of items)) left
    ∙ ap (λ first. are_left c.items.seen (first ∷ names)) (sym name))
