-- The keys of two rules are one exactly where the rules are.
use Rattle.std.proofs.Common.{◌≡◌, ℕ, ◌&&◌, cond, eqb, List, [], ◌∷◌, ◌++◌, length, Option, Some, None, refl, ap, sym, ◌∙◌, append_assoc, arith}
use Rattle.std.specs.Prelude.{ℤ, FitsSigned, IfSome, Decides, bytes_eq}
use Rattle.std.specs.Cmp.{Equal-is, tied_itself}
use Rattle.std.specs.Int.{w32, w64, from_be_bytes, cast_signed, cast_unsigned}
use Rattle.std.specs.List.{AllByRecursion}
use Rattle.std.proofs.lemmas.Bool.{and_parts, and_from}
use Rattle.std.proofs.lemmas.Bool.Decides.{same_from_decides}
use Rattle.std.proofs.lemmas.Int.{to_z-of_z}
use Rattle.std.proofs.lemmas.Slice.Eq.{bytes_eq-Decides}
use Rattle.sr_ast.specs.declared.create.SubscriptionRule.{SubscriptionRule}
use Rattle.sr_base.specs.Fields.{name_spelling, signed_spelling}
use Rattle.sr_base.specs.Inner.NumberLaws.{wide32, wide64, signed32, signed64}
use Rattle.sr_base.specs.Order.{value_cmp}
use Rattle.sr_base.specs.Inner.Order.{value_cmp_total}
use Rattle.sr_base.specs.Inner.ValueLaws.{IsDay-fits}
use Rattle.sr_base.specs.declared.value.Value.{Value}
use Rattle.sr_base.specs.declared.value.Value.TheVariants.{Null, Int, Big, Str, Date}
use Rattle.sr_base.proofs.Exact.{exact_values}
use Rattle.sr_catalog_schema.specs.Inner.Keys.{pair_key, value_tail, rule_key, key_of, HasRange, IsRanged}
use Rattle.sr_catalog_schema.specs.Rules.{is_same_value, is_of}
use Rattle.sr_catalog_schema.specs.declared.subscription.Subscription.{Subscription}

-- what stands behind prefixes of one length
prefix_apart : (a b r s : List ℕ) → length a ≡ length b → a ++ r ≡ b ++ s → (a ≡ b) × (r ≡ s)
prefix_apart [] [] r s l e = (refl, e)
prefix_apart [] (y ∷ b) r s l e = absurd (omega arith)
prefix_apart (x ∷ a) [] r s l e = absurd (omega arith)
prefix_apart (x ∷ a) (y ∷ b) r s l e =
    let whole : x ∷ (a ++ r) ≡ y ∷ (b ++ s) = e in
    let heads : x ≡ y = cc in
    let tails : a ++ r ≡ b ++ s = cc in
    let both = prefix_apart a b r s (omega arith) tails in
    (λ i. heads i ∷ both.0 i, both.1)

names_apart : (a b r s : List ℕ) → name_spelling a ++ r ≡ name_spelling b ++ s → (a ≡ b) × (r ≡ s)
names_apart a b r s e =
    let whole : length a ∷ (a ++ r) ≡ length b ∷ (b ++ s) = e in
    let lengths : length a ≡ length b = cc in
    let tails : a ++ r ≡ b ++ s = cc in
    prefix_apart a b r s lengths tails

pub pair_apart : (u p v q r s : List ℕ) → pair_key u p ++ r ≡ pair_key v q ++ s → (u ≡ v) × (p ≡ q) × (r ≡ s)
unfolding pair_key
pair_apart u p v q r s e =
    let whole : name_spelling u ++ (name_spelling p ++ r) ≡ name_spelling v ++ (name_spelling q ++ s)
    = sym (append_assoc (name_spelling u) (name_spelling p) r) ∙ e ∙ append_assoc (name_spelling v) (name_spelling q) s in
    let first = names_apart u v (name_spelling p ++ r) (name_spelling q ++ s) whole in
    let second = names_apart p q r s first.1 in
    (first.0, second.0, second.1)

-- the keys of two pairs are one exactly where the pairs are
pub pair_is : (u p v q : List ℕ) → bytes_eq (pair_key u p) (pair_key v q) ≡ (bytes_eq u v && bytes_eq p q)
pair_is u p v q =
    same_from_decides {P = pair_key u p ≡ pair_key v q} _ _ (bytes_eq-Decides (pair_key u p) (pair_key v q)) (
      λ h. let both = and_parts (bytes_eq u v) (bytes_eq p q) h in λ i. pair_key ((bytes_eq-Decides u v).0 both.0 i) ((bytes_eq-Decides p q).0 both.1 i),
      λ e. let parts = pair_apart u p v q [] [] (ap (λ k. k ++ []) e) in and_from (bytes_eq u v) (bytes_eq p q) ((bytes_eq-Decides u v).1 parts.0) ((bytes_eq-Decides p q).1 parts.1),
    )

-- a value is read back from its bytes
abbrev value_in : List ℕ → Option Value
value_in [] = None
value_in (tag ∷ rest) =
    cond (eqb tag 0) (Some Null)
    (cond (eqb tag 1) (Some (Int (cast_signed w32 (from_be_bytes w32 rest))))
    (cond (eqb tag 2) (Some (Big (cast_signed w64 (from_be_bytes w64 rest))))
    (cond (eqb tag 3) (Some (Str rest)) (Some (Date (cast_signed w32 (from_be_bytes w32 rest)))))))

back32 : (n : ℤ) → FitsSigned w32 n → cast_signed w32 (from_be_bytes w32 (signed_spelling w32 n)) ≡ n
back32 n h = ap (cast_signed w32) (wide32.again (cast_unsigned w32 n) (signed32.below n h)) ∙ to_z-of_z w32 n h

back64 : (n : ℤ) → FitsSigned w64 n → cast_signed w64 (from_be_bytes w64 (signed_spelling w64 n)) ≡ n
back64 n h = ap (cast_signed w64) (wide64.again (cast_unsigned w64 n) (signed64.below n h)) ∙ to_z-of_z w64 n h

value_back : (v : Option Value) → IfSome v HasRange → value_in (value_tail v) ≡ v
unfolding value_tail HasRange
value_back None h = refl
value_back (Some Null) h = refl
value_back (Some (Int n)) h = ap (λ z. Some (Int z)) (back32 n h)
value_back (Some (Big n)) h = ap (λ z. Some (Big z)) (back64 n h)
value_back (Some (Str t)) h = refl
value_back (Some (Date d)) h = ap (λ z. Some (Date z)) (back32 d (IsDay-fits d h))

same_value-Decides : (v w : Option Value) → Decides (is_same_value v w) (v ≡ w)
same_value-Decides None None = (λ _. refl, λ _. refl)
same_value-Decides None (Some w) = (λ e. absurd cc, λ e. absurd cc)
same_value-Decides (Some v) None = (λ e. absurd cc, λ e. absurd cc)
same_value-Decides (Some v) (Some w) = (
  λ e. ap Some (exact_values v w ((Equal-is (value_cmp v w)).0 e)),
  λ e. let same : v ≡ w = cc in (Equal-is (value_cmp v w)).1 (ap (value_cmp v) (sym same) ∙ tied_itself value_cmp_total v),
)

-- the key of a rule is that of a subscription exactly where it is the rule's
pub rule_is : (r : SubscriptionRule) (s : Subscription) → IfSome r.value HasRange → IsRanged s → bytes_eq (rule_key r.user r.publication r.value) (key_of s) ≡ is_of r s
rule_is r s h k =
    same_from_decides {P = rule_key r.user r.publication r.value ≡ key_of s} _ _ (bytes_eq-Decides (rule_key r.user r.publication r.value) (key_of s)) (
      λ e.
          let one = and_parts (bytes_eq r.publication s.publication) (bytes_eq r.user s.user && is_same_value r.value s.value) e in
          let two = and_parts (bytes_eq r.user s.user) (is_same_value r.value s.value) one.1 in
          λ i. rule_key ((bytes_eq-Decides r.user s.user).0 two.0 i) ((bytes_eq-Decides r.publication s.publication).0 one.0 i) ((same_value-Decides r.value s.value).0 two.1 i),
      λ e.
          let parts = pair_apart r.user r.publication s.user s.publication (value_tail r.value) (value_tail s.value) e in
          let values : r.value ≡ s.value = sym (value_back r.value h) ∙ ap value_in parts.2 ∙ value_back s.value k in
          and_from _ _ ((bytes_eq-Decides r.publication s.publication).1 parts.1) (and_from _ _ ((bytes_eq-Decides r.user s.user).1 parts.0) ((same_value-Decides r.value s.value).1 values)),
    )

-- the same of a list of subscriptions
pub rules_are : (r : SubscriptionRule) (items : List Subscription) → IfSome r.value HasRange → AllByRecursion IsRanged items
    → AllByRecursion (λ s. bytes_eq (rule_key r.user r.publication r.value) (key_of s) ≡ is_of r s) items
rules_are r [] h k = tt
rules_are r (s ∷ items) h k = (rule_is r s h k.0, rules_are r items h k.1)
