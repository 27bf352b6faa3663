-- Keys, gathered in a set.
use Rattle.std.proofs.Common.{◌≡◌, Bool, true, false, ◌||◌, cond, List, [], ◌∷◌, sym, ap, ◌∙◌, refl}
use Rattle.std.specs.BTreeSet.{BTreeSet, contains, Updates}
use Rattle.std.specs.Cmp.{eq_by_cmp_equiv}
use Rattle.std.specs.List.{list_any}
use Rattle.std.specs.Ordering.{eq_by_cmp}
use Rattle.sr_base.specs.Order.{key_cmp}
use Rattle.sr_base.specs.Inner.Order.{key_cmp_total}
use Rattle.sr_base.specs.declared.value.Value.{Value as Cell}
use Rattle.dbremote_demo_draws.specs.Agreement.{is_among}
use Rattle.dbremote_demo_draws.specs.Inner.Agreement.{IsSetOf}

-- the set has the keys before those that are left
pub record Gathers (values : List (List Cell)) (set : BTreeSet (List Cell)) (left : List (List Cell)) : Type 0 where
  pub same : (v : List Cell) → is_among values v ≡ (contains key_cmp set v || is_among left v)

pub Gathers-start : (values : List (List Cell)) (set : BTreeSet (List Cell)) (left : List (List Cell)) → left ≡ values → set.keys ≡ [] → Gathers values set left
Gathers-start values set left e none = record { same = λ v. sym (ap (λ (ks : List (List Cell)). contains key_cmp (record { keys = ks }) v || is_among left v) none ∙ ap (λ (l : List (List Cell)). is_among l v) e) }

flipped : (a b : List Cell) → eq_by_cmp key_cmp a b ≡ eq_by_cmp key_cmp b a
flipped = (eq_by_cmp_equiv key_cmp_total).symm

step : (c e a : Bool) → (c || (e || a)) ≡ (cond e true c || a)
step true true a = refl
step true false a = refl
step false true a = refl
step false false a = refl

pub Gathers-more : (values : List (List Cell)) (set new : BTreeSet (List Cell)) (left after : List (List Cell)) (x : List Cell) → Gathers values set left → left ≡ x ∷ after
    → Updates key_cmp set new x true → Gathers values new after
Gathers-more values set new left after x g e u = record {
  same = λ v.
      let one : is_among left v ≡ (eq_by_cmp key_cmp v x || is_among after v) = ap (λ (l : List (List Cell)). is_among l v) e in
      let two : contains key_cmp new v ≡ cond (eq_by_cmp key_cmp v x) true (contains key_cmp set v) =
      u.0 v ∙ ap (λ (b : Bool). cond b true (contains key_cmp set v)) (flipped x v) in
      g.same v ∙ (ap (λ (b : Bool). contains key_cmp set v || b) one
      ∙ (step (contains key_cmp set v) (eq_by_cmp key_cmp v x) (is_among after v) ∙ sym (ap (λ (b : Bool). b || is_among after v) two)));
}

or_none : (a : Bool) → (a || false) ≡ a
or_none true = refl
or_none false = refl

pub Gathers-end : (values : List (List Cell)) (set : BTreeSet (List Cell)) (left : List (List Cell)) → Gathers values set left → left ≡ [] → IsSetOf set values
Gathers-end values set left g e = record {
  same = λ v. sym (g.same v ∙ (ap (λ (l : List (List Cell)). contains key_cmp set v || is_among l v) e ∙ or_none (contains key_cmp set v)));
}
