-- The values of subscriptions, gathered in a set.
use Rattle.std.proofs.Common.{◌≡◌, Bool, true, false, ◌||◌, cond, List, [], ◌∷◌, sym, ap, ◌∙◌, refl}
use Rattle.std.specs.BTreeSet.{BTreeSet, contains, Updates}
use Rattle.std.specs.Cmp.{eq_by_cmp_equiv}
use Rattle.std.specs.List.{list_any}
use Rattle.std.specs.Ordering.{eq_by_cmp}
use Rattle.sr_base.specs.Order.{value_cmp}
use Rattle.sr_base.specs.Inner.Order.{value_cmp_total}
use Rattle.sr_base.specs.declared.value.Value.{Value as Cell}
use Rattle.sr_publish.specs.Inner.Numbers.{widened}
use Rattle.sr_publish.specs.Inner.Subscribed.{IsSetOf}

-- whether a value is one of a list, each INTEGER taken as a BIGINT
abbrev among : Cell → List Cell → Bool
among v values = list_any (λ w. eq_by_cmp value_cmp v (widened w)) values

-- the set has the values before those that are left
pub record Gathers (values : List Cell) (set : BTreeSet Cell) (left : List Cell) : Type 0 where
  pub same : (v : Cell) → among v values ≡ (contains value_cmp set v || among v left)

pub Gathers-start : (values : List Cell) (set : BTreeSet Cell) (left : List Cell) → left ≡ values → set.keys ≡ [] → Gathers values set left
Gathers-start values set left e none = record { same = λ v. sym (ap (λ (ks : List Cell). contains value_cmp (record { keys = ks }) v || among v left) none ∙ ap (λ (l : List Cell). among v l) e) }

flipped : (a b : Cell) → eq_by_cmp value_cmp a b ≡ eq_by_cmp value_cmp b a
flipped = (eq_by_cmp_equiv value_cmp_total).symm

step : (c e a : Bool) → (c || (e || a)) ≡ (cond e true c || a)
step true true a = refl
step true false a = refl
step false true a = refl
step false false a = refl

pub Gathers-more : (values : List Cell) (set new : BTreeSet Cell) (left after : List Cell) (x : Cell) → Gathers values set left → left ≡ x ∷ after
    → Updates value_cmp set new (widened x) true → Gathers values new after
Gathers-more values set new left after x g e u = record {
  same = λ v.
      let one : among v left ≡ (eq_by_cmp value_cmp v (widened x) || among v after) = ap (λ (l : List Cell). among v l) e in
      let two : contains value_cmp new v ≡ cond (eq_by_cmp value_cmp v (widened x)) true (contains value_cmp set v) =
      u.0 v ∙ ap (λ (b : Bool). cond b true (contains value_cmp set v)) (flipped (widened x) v) in
      g.same v ∙ (ap (λ (b : Bool). contains value_cmp set v || b) one
      ∙ (step (contains value_cmp set v) (eq_by_cmp value_cmp v (widened x)) (among v after) ∙ sym (ap (λ (b : Bool). b || among v after) two)));
}

or_none : (a : Bool) → (a || false) ≡ a
or_none true = refl
or_none false = refl

pub Gathers-end : (values : List Cell) (set : BTreeSet Cell) (left : List Cell) → Gathers values set left → left ≡ [] → IsSetOf set values
Gathers-end values set left g e = record {
  same = λ v. sym (g.same v ∙ (ap (λ (l : List Cell). contains value_cmp set v || among v l) e ∙ or_none (contains value_cmp set v)));
}
