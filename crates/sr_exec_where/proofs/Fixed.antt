-- A condition that fixes the key selects no other row.
use Rattle.std.proofs.Common.{◌≡◌, ◌&&◌, ◌||◌, Bool, true, false, cond, map, take, ℕ, zero, suc, ℤ, List, [], ◌∷◌, Option, Some, None, bytes_eq, unwrap_or, slice_get, refl, sym, ap, subst, ◌∙◌}
use Rattle.std.specs.List.{list_any}
use Rattle.std.specs.declared.cmp.Ordering.{Ordering}
use Rattle.std.specs.declared.cmp.Ordering.TheVariants.{Less, Equal, Greater}
use Rattle.std.specs.Ordering.{is_eq, int_cmp, nat_cmp, ordering_then}
use Rattle.std.specs.Cmp.{Equal-is, tied_itself}
use Rattle.std.specs.Cmp.Lexicographic.{slice_cmp}
use Rattle.std.specs.FinMap.{int_cmp-IsAntisymmetric}
use Rattle.std.proofs.lemmas.Map.Lookups.{exact_bytes}
use Rattle.std.proofs.lemmas.Map.Text.{is_eq-slice_cmp}
use Rattle.sr_base_dates.specs.Fitting.{fitted}
use Rattle.sr_base.specs.Order.{compared, name_cmp}
use Rattle.sr_base.specs.Inner.Order.{name_cmp_total}
use Rattle.sr_base.specs.declared.value.Kind.{Kind}
use Rattle.sr_base.specs.declared.value.Value.{Value}
use Rattle.sr_base.specs.declared.value.Value.TheVariants.{Null, Int, Big, Str, Date}
use Rattle.sr_base.proofs.Truths.{both_true}
use Rattle.sr_ast.specs.Terms.{Term}
use Rattle.sr_ast.specs.Terms.Term.{literal, column, unary, binary}
use Rattle.sr_ast.specs.Classes.{is_meant, is_alias}
use Rattle.sr_ast.specs.declared.operator.Binary.{Binary}
use Rattle.sr_ast.specs.declared.operator.Binary.TheVariants as op
use Rattle.sr_eval.specs.Comparisons.{tested}
use Rattle.sr_eval.specs.Inner.Laws.{AndIsBoth}
use Rattle.sr_eval.specs.Meanings.{meaning, value_meant, is_true}
use Rattle.sr_eval.specs.Meanings.Meaning.{truth}
use Rattle.sr_catalog_schema.specs.declared.table.Column.{Column}
use Rattle.sr_catalog_schema.specs.declared.table.Table.{Table}
use Rattle.sr_exec_where.specs.Checks.{Scope}
use Rattle.sr_catalog_schema.specs.Members.{scope_of}
use Rattle.sr_exec_fits.specs.Rows.{IsRow}
use Rattle.sr_exec_fits.proofs.Rows.{row_parts}
use Rattle.sr_exec_where.specs.Inner.Fixing.{fixed_side, fixed_binary, fixed_in, fixed_column, with_value, fixed_key}
use Rattle.sr_catalog_schema.specs.Firsts.{first_of}
use Rattle.sr_exec_where.specs.Keys.{key_of}

-- values that compare as equal are held as one
pub equal_order : (o : Option Ordering) → is_true (Some (truth (tested is_eq o))) ≡ true → o ≡ Some Equal
equal_order None h = cc
equal_order (Some Less) h = cc
equal_order (Some Equal) h = refl
equal_order (Some Greater) h = cc

same_first : (a b : Ordering) → ordering_then a b ≡ Equal → a ≡ Equal
same_first Less b h = cc
same_first Equal b h = refl
same_first Greater b h = cc

same_last : (a b : Ordering) → ordering_then a b ≡ Equal → b ≡ Equal
same_last Less b h = cc
same_last Equal b h = h
same_last Greater b h = cc

same_number : (n m : ℤ) → ◌≡◌ {A = Option Ordering} (Some (ordering_then (int_cmp n m) Equal)) (Some Equal) → n ≡ m
same_number n m h = let e : ordering_then (int_cmp n m) Equal ≡ Equal = cc in int_cmp-IsAntisymmetric n m (same_first (int_cmp n m) Equal e)

same_text : (s t : List ℕ) → ◌≡◌ {A = Option Ordering} (Some (slice_cmp nat_cmp s t)) (Some Equal) → s ≡ t
same_text s t h = let e : slice_cmp nat_cmp s t ≡ Equal = cc in exact_bytes s t e

pub fitted_alike : (a b : Value) (k : Kind) → compared a b ≡ Some Equal → fitted a k ≡ fitted b k
fitted_alike Null Null k h = cc
fitted_alike Null (Int m) k h = cc
fitted_alike Null (Big m) k h = cc
fitted_alike Null (Str t) k h = cc
fitted_alike Null (Date d) k h = cc
fitted_alike (Int n) Null k h = cc
fitted_alike (Int n) (Int m) k h = ap (λ x. fitted (Int x) k) (same_number n m h)
fitted_alike (Int n) (Big m) k h = ap (λ x. fitted (Big x) k) (same_number n m h)
fitted_alike (Int n) (Str t) k h = cc
fitted_alike (Int n) (Date d) k h = cc
fitted_alike (Big n) Null k h = cc
fitted_alike (Big n) (Int m) k h = ap (λ x. fitted (Int x) k) (same_number n m h)
fitted_alike (Big n) (Big m) k h = ap (λ x. fitted (Big x) k) (same_number n m h)
fitted_alike (Big n) (Str t) k h = cc
fitted_alike (Big n) (Date d) k h = cc
fitted_alike (Str s) Null k h = cc
fitted_alike (Str s) (Int m) k h = cc
fitted_alike (Str s) (Big m) k h = cc
fitted_alike (Str s) (Str t) k h = ap (λ x. fitted (Str x) k) (same_text s t h)
fitted_alike (Str s) (Date d) k h = cc
fitted_alike (Date c) Null k h = cc
fitted_alike (Date c) (Int m) k h = cc
fitted_alike (Date c) (Big m) k h = cc
fitted_alike (Date c) (Str t) k h = cc
fitted_alike (Date c) (Date d) k h = ap (λ x. fitted (Date x) k) (same_number c d h)

-- the value of the first column of a name
abbrev scoped : List ℕ → List Column → Scope
scoped table columns = map (λ (c : Column). (Some table, c.name, c.kind)) columns

abbrev at_place : List Value → ℕ → Value
at_place row place = unwrap_or (slice_get row place) Null

pub same_name : (s t : List ℕ) → bytes_eq s t ≡ true → s ≡ t
same_name s t p = exact_bytes s t ((Equal-is (name_cmp s t)).0 (is_eq-slice_cmp s t ∙ p))

pub bytes_itself : (s : List ℕ) → bytes_eq s s ≡ true
bytes_itself s = sym (is_eq-slice_cmp s s) ∙ ap is_eq (tied_itself name_cmp_total s)

with_first : (a b : Bool) → b ≡ true → (a && b) ≡ a
with_first true b h = h
with_first false b h = refl

either_false : (a b : Bool) → (a || b) ≡ false → (a ≡ false) × (b ≡ false)
either_false true b h = cc
either_false false b h = (refl, h)

abbrev named_before : Column → List Column → Bool
named_before c columns = list_any (λ (d : Column). bytes_eq c.name d.name) columns

value_at-place : (table : List ℕ) (alias : Option (List ℕ)) (c : Column) → is_alias (Some table) alias ≡ true → (columns : List Column) (row : List Value) (place : ℕ) → IsRow columns row
    → slice_get columns place ≡ Some c → named_before c (take place columns) ≡ false → value_meant (scoped table columns) row alias c.name ≡ at_place row place
value_at-place table alias c al [] row place f g h = cc
value_at-place table alias c al (d ∷ columns) [] place f g h = cc
value_at-place table alias c al (d ∷ columns) (v ∷ row) zero f g h =
    let is : d ≡ c = cc in
    let meant : is_meant (Some table) d.name alias c.name ≡ true = with_first (bytes_eq d.name c.name) (is_alias (Some table) alias) al ∙ ap (λ (x : Column). bytes_eq x.name c.name) is ∙ bytes_itself c.name in
    ap (λ b. cond b v (value_meant (scoped table columns) row alias c.name)) meant
value_at-place table alias c al (d ∷ columns) (v ∷ row) (suc place) f g h = go (bytes_eq d.name c.name) refl (either_false (bytes_eq c.name d.name) (named_before c (take place columns)) h) (value_at-place table alias c al columns row place (row_parts d columns v row f).2 g) where
  go : (b : Bool) → bytes_eq d.name c.name ≡ b → (bytes_eq c.name d.name ≡ false) × (named_before c (take place columns) ≡ false) → (named_before c (take place columns) ≡ false → value_meant (scoped table columns) row alias c.name ≡ at_place row place)
      → cond (bytes_eq d.name c.name && is_alias (Some table) alias) v (value_meant (scoped table columns) row alias c.name) ≡ at_place row place
  go true e k rest = let here : bytes_eq c.name d.name ≡ true = ap (bytes_eq c.name) (same_name d.name c.name e) ∙ bytes_itself c.name in let gone = k.0 in cc
  go false e k rest = ap (λ b. cond (b && is_alias (Some table) alias) v (value_meant (scoped table columns) row alias c.name)) e ∙ rest k.1

fits_at : (columns : List Column) (row : List Value) (place : ℕ) (c : Column) → IsRow columns row → slice_get columns place ≡ Some c → fitted (at_place row place) c.kind ≡ Some (at_place row place)
fits_at [] row place c f g = cc
fits_at (d ∷ columns) [] place c f g = cc
fits_at (d ∷ columns) (v ∷ row) zero c f g = let is : d ≡ c = cc in subst (λ (x : Column). fitted v x.kind ≡ Some v) is (row_parts d columns v row f).0
fits_at (d ∷ columns) (v ∷ row) (suc place) c f g = fits_at columns row place c (row_parts d columns v row f).2 g

-- a row on which the condition is true has the values that are fixed
module _ (table : List ℕ) (columns : List Column) (row : List Value) (fits : IsRow columns row) (and_is_both : AndIsBoth) where
  abbrev IsTrueHere : Term → Type 0
  IsTrueHere t = is_true (meaning (scoped table columns) row t) ≡ true

  module _ (place : ℕ) (c : Column) (there : slice_get columns place ≡ Some c) (first : named_before c (take place columns) ≡ false) where
    held_as : (v w : Value) → fitted (at_place row place) c.kind ≡ fitted v c.kind → fitted v c.kind ≡ Some w → at_place row place ≡ w
    held_as v w same is = let e : Some (at_place row place) ≡ Some w = sym (fits_at columns row place c fits there) ∙ same ∙ is in cc

    meant_value : (alias : Option (List ℕ)) (name : List ℕ) (v w : Value) (b : Bool) → is_meant (Some table) c.name alias name ≡ b → cond b (fitted v c.kind) None ≡ Some w
        → (value_meant (scoped table columns) row alias name ≡ at_place row place) × (fitted v c.kind ≡ Some w)
    meant_value alias name v w false e h = cc
    meant_value alias name v w true e h =
        let both = both_true (bytes_eq c.name name) (is_alias (Some table) alias) e in
        (ap (value_meant (scoped table columns) row alias) (sym (same_name c.name name both.0)) ∙ value_at-place table alias c both.1 columns row place fits there first, h)

    left_side : (a b : Term) (w : Value) → fixed_side table c a b ≡ Some w → IsTrueHere (binary op.Equal a b) → at_place row place ≡ w
    left_side (literal u) b w h t = cc
    left_side (unary o a) b w h t = cc
    left_side (binary o a d) b w h t = cc
    left_side (column alias name) (column other n) w h t = cc
    left_side (column alias name) (unary o b) w h t = cc
    left_side (column alias name) (binary o b d) w h t = cc
    left_side (column alias name) (literal v) w h t =
        let m = meant_value alias name v w (is_meant (Some table) c.name alias name) refl h in
        held_as v w (fitted_alike (at_place row place) v c.kind (ap (λ x. compared x v) (sym m.0) ∙ equal_order (compared (value_meant (scoped table columns) row alias name) v) t)) m.1

    right_side : (a b : Term) (w : Value) → fixed_side table c b a ≡ Some w → IsTrueHere (binary op.Equal a b) → at_place row place ≡ w
    right_side a (literal u) w h t = cc
    right_side a (unary o b) w h t = cc
    right_side a (binary o b d) w h t = cc
    right_side (column other n) (column alias name) w h t = cc
    right_side (unary o a) (column alias name) w h t = cc
    right_side (binary o a d) (column alias name) w h t = cc
    right_side (literal v) (column alias name) w h t =
        let m = meant_value alias name v w (is_meant (Some table) c.name alias name) refl h in
        held_as v w (sym (fitted_alike v (at_place row place) c.kind (ap (compared v) (sym m.0) ∙ equal_order (compared v (value_meant (scoped table columns) row alias name)) t))) m.1

    either : (x y : Option Value) (w : Value) → first_of x y ≡ Some w → (x ≡ Some w → at_place row place ≡ w) → (y ≡ Some w → at_place row place ≡ w) → at_place row place ≡ w
    either None y w h f g = g h
    either (Some x) y w h f g = f h

    both_hold : (a b : Term) → IsTrueHere (binary op.And a b) → IsTrueHere a × IsTrueHere b
    both_hold a b t = both_true (is_true (meaning (scoped table columns) row a)) (is_true (meaning (scoped table columns) row b)) (sym (and_is_both (scoped table columns) row a b) ∙ t)

    fixed_binary_is : (o : Binary) (a b : Term) (w : Value) → ((v : Value) → fixed_in table c a ≡ Some v → IsTrueHere a → at_place row place ≡ v) → ((v : Value) → fixed_in table c b ≡ Some v → IsTrueHere b → at_place row place ≡ v)
        → fixed_binary table c o a b (fixed_in table c a) (fixed_in table c b) ≡ Some w → IsTrueHere (binary o a b) → at_place row place ≡ w
    fixed_binary_is op.And a b w f g h t = let both = both_hold a b t in either (fixed_in table c a) (fixed_in table c b) w h (λ e. f w e both.0) (λ e. g w e both.1)
    fixed_binary_is op.Equal a b w f g h t = either (fixed_side table c a b) (fixed_side table c b a) w h (λ e. left_side a b w e t) (λ e. right_side a b w e t)
    fixed_binary_is op.Or a b w f g h t = cc
    fixed_binary_is op.Unequal a b w f g h t = cc
    fixed_binary_is op.Less a b w f g h t = cc
    fixed_binary_is op.AtMost a b w f g h t = cc
    fixed_binary_is op.Greater a b w f g h t = cc
    fixed_binary_is op.AtLeast a b w f g h t = cc
    fixed_binary_is op.Add a b w f g h t = cc
    fixed_binary_is op.Subtract a b w f g h t = cc
    fixed_binary_is op.Multiply a b w f g h t = cc

    fixed_in_is : (t : Term) (w : Value) → fixed_in table c t ≡ Some w → IsTrueHere t → at_place row place ≡ w
    fixed_in_is (literal v) w h t = cc
    fixed_in_is (column alias name) w h t = cc
    fixed_in_is (unary o a) w h t = cc
    fixed_in_is (binary o a b) w h t = fixed_binary_is o a b w (fixed_in_is a) (fixed_in_is b) h t

-- the whole key
module _ (table : Table) (row : List Value) (fits : IsRow table.columns row) (and_is_both : AndIsBoth) (t : Term) (holds : is_true (meaning (scope_of table) row t) ≡ true) where
  column_is : (place : ℕ) (o : Option Column) (w : Value) → slice_get table.columns place ≡ o → fixed_column table place t o ≡ Some w → at_place row place ≡ w
  column_is place None w e h = cc
  column_is place (Some c) w e h = go (named_before c (take place table.columns)) refl h where
    go : (b : Bool) → named_before c (take place table.columns) ≡ b → cond b None (fixed_in table.name c t) ≡ Some w → at_place row place ≡ w
    go true f k = cc
    go false f k = fixed_in_is table.name table.columns row fits and_is_both place c e f t w k holds

  values_are : (place : ℕ) (v : Option Value) (rest : Option (List Value)) (places : List ℕ) (key : List Value) → ((w : Value) → v ≡ Some w → at_place row place ≡ w) → ((ws : List Value) → rest ≡ Some ws → key_of places row ≡ ws) → with_value v rest ≡ Some key → key_of (place ∷ places) row ≡ key
  values_are place None rest places key f g h = cc
  values_are place (Some w) None places key f g h = cc
  values_are place (Some w) (Some ws) places key f g h = let is : w ∷ ws ≡ key = cc in (λ i. f w refl i ∷ g ws refl i) ∙ is

  pub key_is : (places : List ℕ) (key : List Value) → fixed_key table t places ≡ Some key → key_of places row ≡ key
  key_is [] key h = cc
  key_is (place ∷ places) key h =
      values_are place (fixed_column table place t (slice_get table.columns place)) (fixed_key table t places) places key (λ w e. column_is place (slice_get table.columns place) w refl e) (key_is places) h
