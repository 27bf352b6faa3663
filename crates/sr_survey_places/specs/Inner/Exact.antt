-- Keys that compare alike are one, and hash alike.
-- Here is what no contract of the program says by itself.
use Rattle.std.proofs.Common.{◌≡◌, ℕ, zero, suc, true, List, refl, sym, ap, ◌∙◌}
use Rattle.std.proofs.lemmas.Map.Lookups.{CmpEqualImpliesEq, exact_pairs, exact_unsigned, exact_bytes}
use Rattle.std.specs.Cmp.{tied_itself}
use Rattle.std.specs.Ordering.{nat_cmp, ordering_then, is_eq}
use Rattle.std.specs.declared.cmp.Ordering.{Ordering}
use Rattle.std.specs.declared.cmp.Ordering.TheVariants.{Less, Equal, Greater}
use Rattle.sr_base.proofs.Exact.{exact_values}
use Rattle.sr_base.specs.Order.{name_cmp, value_cmp}
use Rattle.sr_base.specs.declared.value.Value.{Value as Cell}
use Rattle.sr_survey_places.specs.Inner.Hashes.{key_input}
use Rattle.sr_survey_places.specs.Inner.KeyOrder.{key_cmp_total}
use Rattle.sr_survey_places.specs.Inner.Keys.{rank_of, name_of, value_of, key_cmp, key_eq}
use Rattle.sr_survey_places.specs.declared.key.Key.{Key}
use Rattle.sr_survey_places.specs.declared.key.Key.TheVariants.{Whole, Part, To, Text, From, Each}

abbrev Parts : Type 0
Parts = ℕ × (Cell × List ℕ)

parts : Key → Parts
parts k = (rank_of k, (value_of k, name_of k))

key_of : ℕ → List ℕ → Cell → Key
key_of zero n v = Whole n
key_of (suc zero) n v = Part n v
key_of (suc (suc zero)) n v = To n
key_of (suc (suc (suc zero))) n v = Text n
key_of (suc (suc (suc (suc zero)))) n v = From n
key_of (suc (suc (suc (suc (suc r))))) n v = Each

whole : Parts → Key
whole p = key_of p.0 p.1.1 p.1.0

whole-parts : (k : Key) → whole (parts k) ≡ k
unfolding whole parts key_of
whole-parts (Whole n) = refl
whole-parts (Part n v) = refl
whole-parts (To n) = refl
whole-parts (Text n) = refl
whole-parts (From n) = refl
whole-parts Each = refl

exact_behind : CmpEqualImpliesEq (λ (x y : Cell × List ℕ). ordering_then (value_cmp x.0 y.0) (name_cmp x.1 y.1))
exact_behind = exact_pairs value_cmp name_cmp exact_values exact_bytes

exact_parts : CmpEqualImpliesEq (λ (x y : Parts). ordering_then (nat_cmp x.0 y.0) (ordering_then (value_cmp x.1.0 y.1.0) (name_cmp x.1.1 y.1.1)))
exact_parts = exact_pairs nat_cmp _ exact_unsigned exact_behind

pub exact_key : CmpEqualImpliesEq key_cmp
unfolding parts
exact_key a b e = sym (whole-parts a) ∙ ap whole (exact_parts (parts a) (parts b) e) ∙ whole-parts b

equal : (o : Ordering) → is_eq o ≡ true → o ≡ Equal
equal Less h = cc
equal Equal h = refl
equal Greater h = cc

-- a key at which another one is found is that one
pub one_key : (k q : Key) → is_eq (key_cmp k q) ≡ true → k ≡ q
one_key k q e = exact_key k q (equal (key_cmp k q) e)

-- a key is found at itself
pub at_itself : (k : Key) → is_eq (key_cmp k k) ≡ true
at_itself k = ap is_eq (tied_itself key_cmp_total k)

-- keys that are one hash alike
pub hash_alike : (x y : Key) → key_eq x y ≡ true → key_input x ≡ key_input y
hash_alike x y e = ap key_input (one_key x y e)
