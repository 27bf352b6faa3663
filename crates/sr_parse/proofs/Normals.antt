-- Columns in the normal form, the last one first, and the names of the key as a set.
use Rattle.std.proofs.Common.{◌≡◌, ℕ, Bool, true, false, ◌||◌, cond, List, [], ◌∷◌, ◌++◌, reverse, IsTrue, ◌↔◌, Contains, ◌⊎◌, inl, inr, refl, sym, subst, ap, ◌∙◌, append_assoc}
use Rattle.std.proofs.Math.Bool.{or-false}
use Rattle.std.proofs.lemmas.List.{reverse-append, append-nil}
use Rattle.std.proofs.lemmas.Map.Lookups.{exact_bytes}
use Rattle.std.proofs.lemmas.Map.Views.{btree_set_contains_iff}
use Rattle.std.specs.declared.cmp.Ordering.{Ordering}
use Rattle.std.specs.declared.cmp.Ordering.TheVariants.{Less, Equal, Greater}
use Rattle.std.specs.Ordering.{is_eq}
use Rattle.std.specs.List.{list_any}
use Rattle.std.specs.BTreeMap.{is_at}
use Rattle.std.specs.BTreeSet.{BTreeSet, contains, Updates}
use Rattle.std.proofs.lemmas.Bool.{or_right, or_left, or_cases}
use Rattle.sr_base.specs.Order.{name_cmp}
use Rattle.sr_base.specs.Inner.Order.{name_cmp_total}
use Rattle.sr_ast.specs.declared.create.ColumnRule.{ColumnRule}
use Rattle.sr_parse.specs.Inner.Keys.{IsSetOf}
use Rattle.sr_parse_grammar.specs.Tables.{IsNormal, AreNormal}

-- the columns behind those that are left have the normal form so far
pub record NormalSoFar (key : List (List ℕ)) (all left columns : List ColumnRule) : Type 0 where
  pub read : List ColumnRule
  pub whole : all ≡ left ++ read
  pub normal : AreNormal key read (reverse columns)

pub NormalSoFar-start : (key : List (List ℕ)) (all left columns : List ColumnRule) → all ≡ left → columns ≡ [] → NormalSoFar key all left columns
NormalSoFar-start key all left columns e n = record { read = []; whole = e ∙ sym (append-nil left); normal = subst (λ (s : List ColumnRule). AreNormal key [] (reverse s)) (sym n) tt }

pub NormalSoFar-more : (key : List (List ℕ)) (all left rest columns more : List ColumnRule) (w c : ColumnRule)
    → NormalSoFar key all left columns → left ≡ rest ++ w ∷ [] → IsNormal key w c → more ≡ columns ++ c ∷ [] → NormalSoFar key all rest more
NormalSoFar-more key all left rest columns more w c h e is m = record {
  read = w ∷ h.read;
  whole = h.whole ∙ (ap (λ l. l ++ h.read) e ∙ append_assoc rest (w ∷ []) h.read);
  normal = subst (λ r. AreNormal key (w ∷ h.read) r) (sym (ap reverse m ∙ reverse-append columns (c ∷ []))) (is, h.normal);
}

pub NormalSoFar-end : (key : List (List ℕ)) (all left columns turned : List ColumnRule) → NormalSoFar key all left columns → left ≡ [] → turned ≡ reverse columns → AreNormal key all turned
NormalSoFar-end key all left columns turned h e t =
    subst (λ c. AreNormal key all c) (sym t) (subst (λ a. AreNormal key a (reverse columns)) (sym (h.whole ∙ ap (λ l. l ++ h.read) e)) h.normal)

normal_back : (P : Type 0) (a b : Bool) → (IsTrue a ↔ P) → (a ≡ true) ⊎ (b ≡ true) → IsTrue b ⊎ P
normal_back P a b i (inl e) = inr (i.0 e)
normal_back P a b i (inr e) = inl e

normal_forth : (P : Type 0) (a b : Bool) → (IsTrue a ↔ P) → IsTrue b ⊎ P → (a || b) ≡ true
normal_forth P a b i (inl e) = or_right a b e
normal_forth P a b i (inr p) = or_left a b (i.1 p)

pub IsNormal-marked : (key : List (List ℕ)) (set : BTreeSet (List ℕ)) (w c : ColumnRule) → IsSetOf set key → c.name ≡ w.name → c.kind ≡ w.kind → c.not_null ≡ (contains name_cmp set w.name || w.not_null) → IsNormal key w c
IsNormal-marked key set w c s n k e = record {
  name = n;
  kind = k;
  not_null = (
    λ h. normal_back (Contains key w.name) (contains name_cmp set w.name) w.not_null (s w.name) (or_cases (contains name_cmp set w.name) w.not_null (sym e ∙ h)),
    λ h. e ∙ normal_forth (Contains key w.name) (contains name_cmp set w.name) w.not_null (s w.name) h,
  );
}

-- whether a name is one of those in a list
abbrev among : List ℕ → List (List ℕ) → Bool
among n names = list_any (is_at (name_cmp n)) names

-- the set has the names before those that are left
pub record Gathers (names : List (List ℕ)) (set : BTreeSet (List ℕ)) (left : List (List ℕ)) : Type 0 where
  pub same : (n : List ℕ) → among n names ≡ (contains name_cmp set n || among n left)

pub Gathers-start : (names : List (List ℕ)) (set : BTreeSet (List ℕ)) (left : List (List ℕ)) → left ≡ names → set.keys ≡ [] → Gathers names set left
Gathers-start names set left e none = record { same = λ n. sym (ap (λ (ks : List (List ℕ)). among n ks || among n left) none ∙ ap (λ (l : List (List ℕ)). among n l) e) }

both_ways : (a b : Bool) → (a ≡ true → b ≡ true) → (b ≡ true → a ≡ true) → a ≡ b
both_ways true b f g = sym (f refl)
both_ways false true f g = g refl
both_ways false false f g = refl

is_equal : (o : Ordering) → is_eq o ≡ true → o ≡ Equal
is_equal Less e = absurd (cc)
is_equal Equal e = refl
is_equal Greater e = absurd (cc)

-- a name that is found is the same from both sides
found_back : (m n : List ℕ) → is_eq (name_cmp m n) ≡ true → is_eq (name_cmp n m) ≡ true
found_back m n e =
    let s : m ≡ n = exact_bytes m n (is_equal (name_cmp m n) e) in
    let f : is_eq (name_cmp m m) ≡ true = subst (λ (x : List ℕ). is_eq (name_cmp m x) ≡ true) (sym s) e in
    subst (λ (x : List ℕ). is_eq (name_cmp x m) ≡ true) s f

flipped : (m n : List ℕ) → is_eq (name_cmp m n) ≡ is_eq (name_cmp n m)
flipped m n = both_ways (is_eq (name_cmp m n)) (is_eq (name_cmp n m)) (found_back m n) (found_back n m)

step : (c e a : Bool) → (c || (e || a)) ≡ (cond e true c || a)
step true true a = refl
step false true a = refl
step _ _ a = refl

pub Gathers-more : (names : List (List ℕ)) (set new : BTreeSet (List ℕ)) (left after : List (List ℕ)) (x : List ℕ) → Gathers names set left → left ≡ x ∷ after → Updates name_cmp set new x true → Gathers names new after
Gathers-more names set new left after x g e u = record {
  same = λ n.
      let one : among n left ≡ (is_eq (name_cmp n x) || among n after) = ap (λ (l : List (List ℕ)). among n l) e in
      let two : contains name_cmp new n ≡ cond (is_eq (name_cmp n x)) true (contains name_cmp set n) =
      u.0 n ∙ ap (λ (b : Bool). cond b true (contains name_cmp set n)) (flipped x n) in
      g.same n ∙ (ap (λ (b : Bool). contains name_cmp set n || b) one
      ∙ (step (contains name_cmp set n) (is_eq (name_cmp n x)) (among n after) ∙ sym (ap (λ (b : Bool). b || among n after) two)));
}

pub Gathers-end : (names : List (List ℕ)) (set : BTreeSet (List ℕ)) (left : List (List ℕ)) → Gathers names set left → left ≡ [] → IsSetOf set names
Gathers-end names set left g e = λ n.
    let as_set : BTreeSet (List ℕ) = record { keys = names } in
    let i = btree_set_contains_iff {R = name_cmp} name_cmp_total exact_bytes as_set n in
    let same : among n names ≡ contains name_cmp set n = g.same n ∙ (ap (λ (l : List (List ℕ)). contains name_cmp set n || among n l) e ∙ or-false (contains name_cmp set n)) in
    (λ h. i.0 (same ∙ h), λ h. sym same ∙ i.1 h)
