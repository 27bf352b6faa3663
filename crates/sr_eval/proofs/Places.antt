-- Columns by their places, and what an expression gives whose names are resolved.
use Rattle.std.proofs.Common.{◌≡◌, ◌≤◌, ◌<◌, ◌-◌, Bool, true, false, cond, ℕ, ◌+◌, nat_lt, not, zero, suc, List, [], ◌∷◌, ◌++◌, length, Option, Some, None, unwrap_or, slice_get, position, arith, refl, sym, ap, ◌∙◌}
use Rattle.std.specs.List.{position_or_len}
use Rattle.std.specs.Option.{option_map, option_and_then}
use Rattle.sr_base.specs.declared.value.Value.{Value}
use Rattle.sr_base.specs.declared.value.Value.TheVariants.{Null}
use Rattle.sr_base.specs.declared.value.Kind.{Kind}
use Rattle.sr_ast.specs.Classes.{is_meant}
use Rattle.sr_ast.specs.Inner.Classes.{place_of}
use Rattle.sr_ast.specs.Terms.{Term}
use Rattle.sr_ast.specs.Terms.Term.{literal, column, unary, binary}
use Rattle.sr_eval.specs.Inner.Bounds.{values_of}
use Rattle.sr_eval.specs.declared.bound.Bound.{Bound}
use Rattle.sr_eval.specs.Meanings.{meaning, unary_meaning, binary_meaning, of_one, of_both, value_meant, found_at}
use Rattle.sr_eval.specs.Meanings.Meaning.{value}
use Rattle.sr_eval.specs.Inner.Resolutions.{at_place, resolved, meaning_at}

-- the place of the first that passes: here, or among those behind
pub position_next : {A : Type 0} (p : A → Bool) (x : A) (xs : List A) → position p (x ∷ xs) ≡ cond (p x) (Some 0) (option_map suc (position p xs))
position_next p x xs = by_test (p x) (position_or_len p xs) (length xs) where
  by_test : (b : Bool) (n len : ℕ) → cond (nat_lt (cond (not b) (1 + n) 0) (suc len)) (Some (cond (not b) (1 + n) 0)) None
      ≡ cond b (Some 0) (option_map suc (cond (nat_lt n len) (Some n) None))
  by_test true n len = grind (arith)
  by_test false n len = grind (arith)

-- a column is found by its place
by_place : (b : Bool) (v : Value) (row : List Value) (o : Option ℕ) (q : Option Value) → q ≡ option_and_then (slice_get row) o
    → cond b (Some v) q ≡ option_and_then (slice_get (v ∷ row)) (cond b (Some 0) (option_map suc o))
by_place true v row o q e = refl
by_place false v row None q e = e
by_place false v row (Some place) q e = e

pub found_at-place : (columns : List (Option (List ℕ) × List ℕ × Kind)) (row : List Value) (table : Option (List ℕ)) (name : List ℕ)
    → found_at columns row table name ≡ option_and_then (slice_get row) (place_of columns table name)
found_at-place [] row table name = refl
found_at-place (c ∷ columns) [] table name = no_row (place_of (c ∷ columns) table name) where
  no_row : (o : Option ℕ) → ◌≡◌ {A = Option Value} None (option_and_then (slice_get []) o)
  no_row None = refl
  no_row (Some place) = refl
found_at-place (c ∷ columns) (v ∷ row) table name =
    by_place (is_meant c.0 c.1 table name) v row (place_of columns table name) (found_at columns row table name) (found_at-place columns row table name)
    ∙ ap (option_and_then (slice_get (v ∷ row))) (sym (position_next (λ c. is_meant c.0 c.1 table name) c columns))

-- the value is the one that is found, or NULL
or_null : (b : Bool) (v w : Value) (o : Option Value) → w ≡ unwrap_or o Null → cond b v w ≡ unwrap_or (cond b (Some v) o) Null
or_null true v w o e = refl
or_null false v w o e = e

pub value_found : (columns : List (Option (List ℕ) × List ℕ × Kind)) (row : List Value) (table : Option (List ℕ)) (name : List ℕ)
    → value_meant columns row table name ≡ unwrap_or (found_at columns row table name) Null
value_found [] row table name = refl
value_found (c ∷ columns) [] table name = refl
value_found (c ∷ columns) (v ∷ row) table name = or_null (is_meant c.0 c.1 table name) v _ _ (value_found columns row table name)

-- a value of several sources is one of the first, or else one of those behind it
in_front : (row others : List Value) (place : ℕ) → place < length row → slice_get (row ++ others) place ≡ slice_get row place
in_front [] others place h = absurd (omega arith)
in_front (v ∷ row) others zero h = refl
in_front (v ∷ row) others (suc place) h = in_front row others place (omega arith)

is_behind : (row others : List Value) (place : ℕ) → length row ≤ place → slice_get (row ++ others) place ≡ slice_get others (place - length row)
is_behind [] others place h = ap (slice_get others) (omega arith)
is_behind (v ∷ row) others zero h = absurd (omega arith)
is_behind (v ∷ row) others (suc place) h = is_behind row others place (omega arith) ∙ ap (slice_get others) (omega arith)

pub value_first : (sources : List Bound) (source : Bound) (after : List Bound) (place : ℕ) → sources ≡ source ∷ after
    → place < length source.values.now → slice_get (values_of sources) place ≡ slice_get source.values.now place
value_first sources source after place begins h = rw begins (in_front source.values.now (values_of after) place h)

pub value_behind : (sources : List Bound) (source : Bound) (after : List Bound) (place : ℕ) → sources ≡ source ∷ after
    → length source.values.now ≤ place
    → slice_get (values_of sources) place ≡ slice_get (values_of after) (place - length source.values.now)
value_behind sources source after place begins h = rw begins (is_behind source.values.now (values_of after) place h)

pub ruleset place_rules = (value_first, value_behind)

-- what stands at the place of a column is its value
stands_at : (row : List Value) (o : Option ℕ) → meaning_at row (at_place o) ≡ Some (value (unwrap_or (option_and_then (slice_get row) o) Null))
stands_at row None = refl
stands_at row (Some place) = refl

-- an expression whose names are resolved gives what it gives by its names
pub resolved_meaning : (columns : List (Option (List ℕ) × List ℕ × Kind)) (row : List Value) (t : Term) → meaning_at row (resolved columns t) ≡ meaning columns row t
resolved_meaning columns row (literal v) = refl
resolved_meaning columns row (column table name) =
    stands_at row (place_of columns table name)
    ∙ ap (λ o. Some (value (unwrap_or o Null))) (sym (found_at-place columns row table name))
    ∙ ap (λ v. Some (value v)) (sym (value_found columns row table name))
resolved_meaning columns row (unary op a) = ap (of_one (unary_meaning op)) (resolved_meaning columns row a)
resolved_meaning columns row (binary op a b) =
    ap (λ m. of_both (binary_meaning op) m (meaning_at row (resolved columns b))) (resolved_meaning columns row a)
    ∙ ap (of_both (binary_meaning op) (meaning columns row a)) (resolved_meaning columns row b)
