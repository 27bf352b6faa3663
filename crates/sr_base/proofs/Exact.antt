-- Values that compare alike are one.
use Rattle.std.proofs.Common.{◌≡◌, ◌↔◌, ℕ, ℤ, Bool, List, IsTrue, sym, ap, ◌∙◌}
use Rattle.std.proofs.lemmas.Map.Lookups.{CmpEqualImpliesEq, exact_pairs, exact_unsigned, exact_signed, exact_bytes}
use Rattle.std.specs.Ordering.{is_eq, nat_cmp, int_cmp, ordering_then}
use Rattle.std.specs.Cmp.Lexicographic.{slice_cmp}
use Rattle.std.specs.FinMap.{slice_cmp-IsAntisymmetric}
use Rattle.sr_base.specs.declared.value.Value.{Value}
use Rattle.std.specs.Cmp.{Equal-is, tied_itself}
use Rattle.std.specs.declared.cmp.Ordering.TheVariants.{Equal}
use Rattle.sr_base.specs.Inner.Codes.{Parts, parts, whole, whole-parts}
use Rattle.sr_base.specs.Order.{value_cmp, key_cmp}
use Rattle.sr_base.specs.Inner.Order.{key_cmp_total}

exact_worths : CmpEqualImpliesEq (λ (x y : ℤ × List ℕ). ordering_then (int_cmp x.0 y.0) (slice_cmp nat_cmp x.1 y.1))
exact_worths = exact_pairs int_cmp (slice_cmp nat_cmp) exact_signed exact_bytes

exact_ranks : CmpEqualImpliesEq (λ (x y : (ℤ × List ℕ) × ℕ). ordering_then (ordering_then (int_cmp x.0.0 y.0.0) (slice_cmp nat_cmp x.0.1 y.0.1)) (nat_cmp x.1 y.1))
exact_ranks = exact_pairs _ nat_cmp exact_worths exact_unsigned

exact_parts : CmpEqualImpliesEq (λ (x y : Parts). ordering_then (nat_cmp x.0 y.0) (ordering_then (ordering_then (int_cmp x.1.0.0 y.1.0.0) (slice_cmp nat_cmp x.1.0.1 y.1.0.1)) (nat_cmp x.1.1 y.1.1)))
exact_parts = exact_pairs nat_cmp _ exact_unsigned exact_ranks

pub exact_values : CmpEqualImpliesEq value_cmp
exact_values a b e = sym (whole-parts a) ∙ ap whole (exact_parts (parts a) (parts b) e) ∙ whole-parts b

pub exact_keys : CmpEqualImpliesEq key_cmp
exact_keys = slice_cmp-IsAntisymmetric exact_values

-- keys compare alike exactly where they are equal
pub keys_tie : (a b : List Value) → (key_cmp a b ≡ Equal) ↔ (a ≡ b)
keys_tie a b = (exact_keys a b, λ e. ap (key_cmp a) (sym e) ∙ tied_itself key_cmp_total a)

-- a test that says whether keys, or rows, compare alike says whether they are equal
pub same_where : (told : Bool) (a b : List Value) → told ≡ is_eq (key_cmp a b) → IsTrue told ↔ (a ≡ b)
same_where told a b is = (λ h. (keys_tie a b).0 ((Equal-is (key_cmp a b)).0 (sym is ∙ h)), λ e. is ∙ ap is_eq ((keys_tie a b).1 e))
