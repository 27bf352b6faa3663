-- A condition that is true on a combination has the columns of the key equal to what it fixes for them.
use Rattle.std.proofs.Common.{◌≡◌, Bool, true, false, cond, ℕ, zero, suc, ◌+◌, nat_eq, List, [], ◌∷◌, ◌++◌, length, Option, Some, None, IsSome, unwrap_or, slice_get, ◌⊎◌, inl, inr, Result, Ok, refl, sym, ap, subst, arith, ◌∙◌}
use Rattle.std.specs.Option.{option_map}
use Rattle.std.specs.declared.cmp.Ordering.TheVariants.{Less, Equal, Greater}
use Rattle.std.proofs.lemmas.Bool.{eqb-true}
use Rattle.sr_base_dates.specs.Fitting.{fitted}
use Rattle.sr_base.specs.Order.{compared}
use Rattle.sr_base.specs.declared.value.Kind.{Kind}
use Rattle.sr_base.specs.declared.value.Value.{Value}
use Rattle.sr_base.specs.declared.value.Value.TheVariants.{Null}
use Rattle.sr_ast.specs.Exprs.{term_of}
use Rattle.sr_ast.specs.Terms.{Term}
use Rattle.sr_ast.specs.Terms.Term.{literal as a_literal, column as a_column, unary as a_unary, binary as a_binary}
use Rattle.sr_ast.specs.declared.expr.Expr.{Expr}
use Rattle.sr_ast.specs.declared.operator.Binary.{Binary}
use Rattle.sr_ast.specs.declared.operator.Binary.TheVariants as op
use Rattle.sr_eval.specs.Bounds.{IsRowOf}
use Rattle.sr_eval.specs.Inner.Laws.{AndIsBoth}
use Rattle.sr_eval.specs.Meanings.{Meaning, meaning, binary_meaning, of_both, is_true}
use Rattle.sr_eval.specs.Meanings.Meaning.{value}
use Rattle.sr_eval.specs.Inner.Resolutions.{Resolution, meaning_at, at_place as at_resolution}
use Rattle.sr_eval.specs.Inner.Resolutions.Resolution.{literal, place, unary, binary}
use Rattle.sr_ast.specs.Uses.{is_plain}
use Rattle.sr_ast.specs.Inner.Classes.{place_of}
use Rattle.sr_eval.proofs.Plain.{plain_have_values}
use Rattle.sr_eval.proofs.Places.{resolved_meaning}
use Rattle.sr_catalog_schema.specs.declared.fault.DmlFault.{DmlFault}
use Rattle.sr_exec_where.specs.Checks.{Scope}
use Rattle.sr_exec_where.specs.Inner.Fixing.{with_value}
use Rattle.sr_catalog_schema.specs.Firsts.{first_of}
use Rattle.sr_exec_where.specs.Keys.{key_of}
use Rattle.sr_exec_dml.specs.Statements.{tested as tested_meaning}
use Rattle.sr_exec_where.proofs.Fixed.{fitted_alike, equal_order}
use Rattle.sr_base.proofs.Truths.{both_true}
use Rattle.sr_query.specs.Combinations.{meets, and_then}
use Rattle.sr_query.specs.Inner.Equations.{Equation, of_column, of_sides, side_in, equations_binary, equations_in, equations}
use Rattle.sr_query.specs.Inner.Lookups.{fitted_or_given, known_value, equated_one, equated, fixed_value, equated_key}

abbrev Key : Type 0
Key = List Value

held_is : (v w : Value) (k : Kind) → fitted w k ≡ Some w → fitted v k ≡ fitted w k → w ≡ fitted_or_given k v
held_is v w k fits alike = ap (λ o. unwrap_or o v) (sym fits ∙ sym alike)

equal_sides : (m n : Option Meaning) (x v : Value) → m ≡ Some (value x) → n ≡ Some (value v) → is_true (of_both (binary_meaning op.Equal) m n) ≡ true
    → compared x v ≡ Some Equal
equal_sides m n x v is_m is_n h =
    equal_order (compared x v)
    (sym (ap (λ o. is_true (of_both (binary_meaning op.Equal) o n)) is_m
    ∙ ap (λ o. is_true (of_both (binary_meaning op.Equal) (Some (value x)) o)) is_n) ∙ h)

-- what stands at a place, or NULL where there is nothing
abbrev pub at_place : Key → ℕ → Value
at_place row n = unwrap_or (slice_get row n) Null

fits_at : (columns : Scope) (row : Key) (n : ℕ) (c : Option (List ℕ) × List ℕ × Kind) → IsRowOf columns row → slice_get columns n ≡ Some c
    → fitted (at_place row n) c.2 ≡ Some (at_place row n)
fits_at [] row n c fits there = cc
fits_at (d ∷ columns) [] n c fits there = absurd fits
fits_at (d ∷ columns) (v ∷ row) zero c fits there = let is : d ≡ c = cc in subst (λ (x : Option (List ℕ) × List ℕ × Kind). fitted v x.2 ≡ Some v) is fits.0
fits_at (d ∷ columns) (v ∷ row) (suc n) c fits there = fits_at columns row n c fits.1 there

known_before : (values more : Key) (n : ℕ) (v : Value) → slice_get values n ≡ Some v → at_place (values ++ more) n ≡ v
known_before [] more n v h = cc
known_before (w ∷ values) more zero v h = cc
known_before (w ∷ values) more (suc n) v h = known_before values more n v h

-- a place of the next source is one of its row
within : (columns : Scope) (row others : Key) (n : ℕ) (c : Option (List ℕ) × List ℕ × Kind) → IsRowOf columns row → slice_get columns n ≡ Some c
    → at_place (row ++ others) n ≡ at_place row n
within [] row others n c fits there = cc
within (d ∷ columns) [] others n c fits there = absurd fits
within (d ∷ columns) (v ∷ row) others zero c fits there = refl
within (d ∷ columns) (v ∷ row) others (suc n) c fits there = within columns row others n c fits.1 there

behind : (values more : Key) (n : ℕ) → at_place (values ++ more) (length values + n) ≡ at_place more n
behind [] more n = ap (at_place more) (omega arith)
behind (v ∷ values) more n =
    let is : suc (length values) + n ≡ suc (length values + n) = omega arith in
    ap (at_place (v ∷ (values ++ more))) is ∙ behind values more n

false_stays : (o : Option Meaning) → IsSome o → is_true o ≡ false → tested_meaning o ≡ Ok false
false_stays None s h = cc
false_stays (Some m) s h = ap (λ (b : Bool). let r : Result Bool DmlFault = Ok b in r) h

true_goes : (o : Option Meaning) → is_true o ≡ true → tested_meaning o ≡ Ok true
true_goes None h = cc
true_goes (Some m) h = ap (λ (b : Bool). let r : Result Bool DmlFault = Ok b in r) h

-- values that fit a column alike
abbrev AreAlike : Value → Value → Type 0
AreAlike v w = (k : Kind) → fitted v k ≡ fitted w k

-- over the values of a combination
module _ (scope : Scope) (all : Key) (and_is_both : AndIsBoth) where
  abbrev IsTrueHere : Term → Type 0
  IsTrueHere t = is_true (meaning scope all t) ≡ true

  -- the value of a side
  abbrev side_value : Resolution → Value
  side_value (literal v) = v
  side_value (place n) = at_place all n
  side_value (unary o a) = Null
  side_value (binary o a b) = Null

  -- equations say what is so
  abbrev AreSo : List Equation → Type 0
  AreSo [] = Unit {0}
  AreSo (e ∷ es) = AreAlike (at_place all e.0) (side_value e.1) × AreSo es

  are_both : (es fs : List Equation) → AreSo es → AreSo fs → AreSo (es ++ fs)
  are_both [] fs h k = k
  are_both (e ∷ es) fs h k = (h.0, are_both es fs h.1 k)

  side_is : (t : Term) (r : Resolution) → side_in scope t ≡ Some r → meaning scope all t ≡ Some (value (side_value r))
  side_is (a_literal v) r h = let is : literal v ≡ r = cc in ap (λ x. Some (value (side_value x))) is
  side_is (a_column table name) r h = go (place_of scope table name) refl h where
    go : (o : Option ℕ) → place_of scope table name ≡ o → option_map place o ≡ Some r → meaning scope all (a_column table name) ≡ Some (value (side_value r))
    go None e k = cc
    go (Some n) e k =
        let is : place n ≡ r = cc in
        sym (resolved_meaning scope all (a_column table name)) ∙ ap (λ o. meaning_at all (at_resolution o)) e ∙ ap (λ x. Some (value (side_value x))) is
  side_is (a_unary o a) r h = cc
  side_is (a_binary o a b) r h = cc

  column_is : (a b : Resolution) → AreAlike (side_value a) (side_value b) → AreSo (of_column a b)
  column_is (literal v) b h = tt
  column_is (place n) b h = (h, tt)
  column_is (unary o a) b h = tt
  column_is (binary o a c) b h = tt

  sides_are : (a b : Term) (r s : Option Resolution) → side_in scope a ≡ r → side_in scope b ≡ s → IsTrueHere (a_binary op.Equal a b) → AreSo (of_sides r s)
  sides_are a b None s f g t = tt
  sides_are a b (Some r) None f g t = tt
  sides_are a b (Some r) (Some s) f g t =
      let alike : AreAlike (side_value r) (side_value s) = λ k. fitted_alike (side_value r) (side_value s) k
      (equal_sides (meaning scope all a) (meaning scope all b) (side_value r) (side_value s) (side_is a r f) (side_is b s g) t) in
      are_both (of_column r s) (of_column s r) (column_is r s alike) (column_is s r (λ k. sym (alike k)))

  -- those of a condition that is true
  binary_are : (o : Binary) (a b : Term) → (IsTrueHere a → AreSo (equations_in scope a)) → (IsTrueHere b → AreSo (equations_in scope b))
      → IsTrueHere (a_binary o a b) → AreSo (equations_binary scope o a b (equations_in scope a) (equations_in scope b))
  binary_are op.And a b f g t =
      let both = both_true (is_true (meaning scope all a)) (is_true (meaning scope all b)) (sym (and_is_both scope all a b) ∙ t) in
      are_both (equations_in scope a) (equations_in scope b) (f both.0) (g both.1)
  binary_are op.Equal a b f g t = sides_are a b (side_in scope a) (side_in scope b) refl refl t
  binary_are op.Or a b f g t = tt
  binary_are op.Unequal a b f g t = tt
  binary_are op.Less a b f g t = tt
  binary_are op.AtMost a b f g t = tt
  binary_are op.Greater a b f g t = tt
  binary_are op.AtLeast a b f g t = tt
  binary_are op.Add a b f g t = tt
  binary_are op.Subtract a b f g t = tt
  binary_are op.Multiply a b f g t = tt

  are_so : (t : Term) → IsTrueHere t → AreSo (equations_in scope t)
  are_so (a_literal v) t = tt
  are_so (a_column table name) t = tt
  are_so (a_unary o a) t = tt
  are_so (a_binary o a b) t = binary_are o a b (are_so a) (are_so b) t

  -- the conditions are not met, or their equations say what is so
  by_conditions : (es : List Expr) → (meets scope es all ≡ Ok false) ⊎ AreSo (equations scope es)
  by_conditions [] = inr tt
  by_conditions (e ∷ es) = go (is_plain (term_of e)) refl (by_conditions es) where
    go : (p : Bool) → is_plain (term_of e) ≡ p → (meets scope es all ≡ Ok false) ⊎ AreSo (equations scope es)
        → (meets scope (e ∷ es) all ≡ Ok false) ⊎ AreSo (cond p (equations_in scope (term_of e) ++ equations scope es) [])
    go false p rest = inr tt
    go true p rest = on (is_true (meaning scope all (term_of e))) refl rest where
      on : (b : Bool) → is_true (meaning scope all (term_of e)) ≡ b → (meets scope es all ≡ Ok false) ⊎ AreSo (equations scope es)
          → (meets scope (e ∷ es) all ≡ Ok false) ⊎ AreSo (equations_in scope (term_of e) ++ equations scope es)
      on false f later = inl (ap (λ r. and_then r (meets scope es all))
          (false_stays (meaning scope all (term_of e)) (plain_have_values scope all (term_of e) p) f))
      on true t (inl n) = inl (ap (λ r. and_then r (meets scope es all)) (true_goes (meaning scope all (term_of e)) t) ∙ n)
      on true t (inr so) = inr (are_both (equations_in scope (term_of e)) (equations scope es) (are_so (term_of e) t) so)

-- a combination: values of the sources before, a row of the next one, and values behind it
module _ (scope columns : Scope) (values row others : Key) (fits : IsRowOf columns row) (and_is_both : AndIsBoth) where
  abbrev all_here : Key
  all_here = values ++ (row ++ others)

  abbrev AreSoHere : List Equation → Type 0
  AreSoHere es = AreSo scope all_here and_is_both es

  known_is : (r : Resolution) (v : Value) → known_value values r ≡ Some v → side_value scope all_here and_is_both r ≡ v
  known_is (literal w) v h = cc
  known_is (place n) v h = known_before values (row ++ others) n v h
  known_is (unary o a) v h = cc
  known_is (binary o a b) v h = cc

  module _ (n : ℕ) (c : Option (List ℕ) × List ℕ × Kind) (there : slice_get columns n ≡ Some c) where
    abbrev Holds : Value → Type 0
    Holds v = at_place row n ≡ fitted_or_given c.2 v

    one_is : (e : Equation) (v : Value) → AreAlike (at_place all_here e.0) (side_value scope all_here and_is_both e.1) → equated_one values n e ≡ Some v → Holds v
    one_is e v so h = go (nat_eq e.0 (length values + n)) refl h where
      go : (b : Bool) → nat_eq e.0 (length values + n) ≡ b → cond b (known_value values e.1) None ≡ Some v → Holds v
      go false is k = cc
      go true is k =
          let here : at_place all_here e.0 ≡ at_place row n =
          ap (at_place all_here) (eqb-true e.0 (length values + n) is) ∙ behind values (row ++ others) n ∙ within columns row others n c fits there in
          held_is v (at_place row n) c.2 (fits_at columns row n c fits there)
          (ap (λ x. fitted x c.2) (sym (known_is e.1 v k)) ∙ sym (so c.2) ∙ ap (λ x. fitted x c.2) here)

    equated_is : (es : List Equation) (v : Value) → AreSoHere es → equated values n es ≡ Some v → Holds v
    equated_is [] v so h = cc
    equated_is (e ∷ es) v so h = go (equated_one values n e) refl h (equated_is es v so.1) where
      go : (o : Option Value) → equated_one values n e ≡ o → first_of o (equated values n es) ≡ Some v → (equated values n es ≡ Some v → Holds v) → Holds v
      go None is k rest = rest k
      go (Some w) is k rest = let same : w ≡ v = cc in one_is e v so.0 (is ∙ ap Some same)

  value_is : (es : List Equation) (n : ℕ) (o : Option (Option (List ℕ) × List ℕ × Kind)) (w : Value) → AreSoHere es → slice_get columns n ≡ o
      → fixed_value values es n o ≡ Some w → at_place row n ≡ w
  value_is es n None w so there h = cc
  value_is es n (Some c) w so there h = go (equated values n es) refl h where
    go : (o : Option Value) → equated values n es ≡ o → option_map (fitted_or_given c.2) o ≡ Some w → at_place row n ≡ w
    go None e k = cc
    go (Some v) e k = let same : fitted_or_given c.2 v ≡ w = cc in equated_is n c there es v so e ∙ same

  -- the row stands under the key that equations fix which say what is so
  key_by : (es : List Equation) (places : List ℕ) (key : Key) → AreSoHere es → equated_key values columns es places ≡ Some key → key_of places row ≡ key
  key_by es [] key so h = cc
  key_by es (n ∷ places) key so h = go (fixed_value values es n (slice_get columns n)) (equated_key values columns es places) refl
      (λ ws. key_by es places ws so) h where
        go : (v : Option Value) (rest : Option Key) → fixed_value values es n (slice_get columns n) ≡ v
            → ((ws : Key) → rest ≡ Some ws → key_of places row ≡ ws) → with_value v rest ≡ Some key → key_of (n ∷ places) row ≡ key
        go None rest f g k = cc
        go (Some w) None f g k = cc
        go (Some w) (Some ws) f g k =
            let is : w ∷ ws ≡ key = cc in
            let here = value_is es n (slice_get columns n) w so refl f in
            let there = g ws refl in
            (λ i. here i ∷ there i) ∙ is

  -- the conditions are not met, or the row stands under the key that they fix
  pub key_is : (es : List Expr) (places : List ℕ) (key : Key) → equated_key values columns (equations scope es) places ≡ Some key
      → (meets scope es all_here ≡ Ok false) ⊎ (key_of places row ≡ key)
  key_is es places key h = elim (by_conditions scope all_here and_is_both es) [ inl n ↦ inl n | inr so ↦ inr (key_by (equations scope es) places key so h) ]
