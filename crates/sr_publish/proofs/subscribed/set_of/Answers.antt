use Rattle.std.proofs.Common.{rules, ◌≡◌, ◌∷◌, true, subst}
use Rattle.sr_base.specs.declared.value.Value.{Value as Cell}
use Rattle.std.specs.BTreeSet.{Updates}
use Rattle.std.proofs.lemmas.List.{nil_from_length}
use Rattle.sr_base.specs.Order.{value_cmp}
use Rattle.sr_publish.proofs.Sets.{Gathers-start, Gathers-more, Gathers-end}
use Rattle.sr_publish.proofs.subscribed.set_of.Goals as goal

pub values-init : goal.values-init
values-init c = Gathers-start _ _ _ (search rules) (search rules)

pub values-preserved : goal.values-preserved
values-preserved c =
    let e : c.values.rest.now ≡ c.in-Some.value.now ∷ c.in-Some.after.now = search rules in
    Gathers-more _ _ _ _ _ _ c.values.invariant e
    (subst (λ (w : Cell). Updates value_cmp c.values.set c.insert.new.self w true) c.in_ok-widened.ensures c.in_ok-insert.ensures.updates)

pub returns : goal.returns
returns c = Gathers-end _ _ _ c.values.invariant (nil_from_length _ c.in_default.ensures.cases)
