use Rattle.std.proofs.Common.{rules, ◌≡◌, ◌∷◌, true, subst, List}
use Rattle.sr_base.specs.declared.value.Value.{Value as Cell}
use Rattle.std.specs.BTreeSet.{Updates}
use Rattle.std.proofs.lemmas.List.{nil_from_length}
use Rattle.sr_base.specs.Order.{key_cmp}
use Rattle.dbremote_demo_draws.proofs.KeySets.{Gathers-start, Gathers-more, Gathers-end}
use Rattle.dbremote_demo_draws.proofs.keys.set_of.Goals as goal

pub keys-init : goal.keys-init
keys-init c = Gathers-start _ _ _ (search rules) (search rules)

pub keys-preserved : goal.keys-preserved
keys-preserved c =
    let e : c.keys.left.now ≡ c.in-Some.key.now ∷ c.in-Some.rest.now = search rules in
    Gathers-more _ _ _ _ _ _ c.keys.invariant e
    (subst (λ (w : List Cell). Updates key_cmp c.keys.set c.insert.new.self w true) c.in_ok-copy.ensures.equal c.in_ok-insert.ensures.updates)

pub returns : goal.returns
returns c = Gathers-end _ _ _ c.keys.invariant (nil_from_length _ c.in_default.ensures.cases)
