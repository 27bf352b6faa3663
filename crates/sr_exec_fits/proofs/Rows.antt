-- Rows that fit: value by value.
use Rattle.std.proofs.Common.{◌≡◌, ℕ, map, true, not, ◌&&◌, List, [], ◌∷◌, Option, Some, None, IsTrue, refl, ap, ◌∙◌}
use Rattle.std.specs.Cmp.{eq_by_cmp_equiv}
use Rattle.std.specs.Ordering.{eq_by_cmp, is_eq}
use Rattle.std.specs.declared.cmp.Ordering.{Ordering}
use Rattle.std.specs.declared.cmp.Ordering.TheVariants.{Less, Equal, Greater}
use Rattle.std.proofs.lemmas.Bool.{and_from}
use Rattle.sr_base.proofs.Exact.{exact_values}
use Rattle.sr_base.specs.Order.{value_cmp}
use Rattle.sr_base.specs.Inner.Order.{value_cmp_total}
use Rattle.sr_base.specs.declared.value.Value.{Value as Cell}
use Rattle.sr_base.proofs.Truths.{both_true}
use Rattle.sr_base_dates.specs.Fitting.{fitted}
use Rattle.sr_eval.specs.Bounds.{IsRowOf}
use Rattle.sr_eval.specs.Comparisons.{is_null}
use Rattle.sr_catalog_schema.specs.declared.table.Column.{Column}
use Rattle.sr_exec_fits.specs.Rows.{is_kept, may_hold, is_row, IsRow}

is_equal : (o : Ordering) → is_eq o ≡ true → o ≡ Equal
is_equal Less e = cc
is_equal Equal e = refl
is_equal Greater e = cc

-- values that the order does not tell apart are one
pub same_value : (v w : Cell) → eq_by_cmp value_cmp v w ≡ true → v ≡ w
same_value v w e = exact_values v w (is_equal (value_cmp v w) e)

pub value_itself : (v : Cell) → eq_by_cmp value_cmp v v ≡ true
value_itself = (eq_by_cmp_equiv value_cmp_total).refl

kept_is : (held : Option Cell) (v : Cell) → is_kept held v ≡ true → held ≡ Some v
kept_is None v e = cc
kept_is (Some w) v e = ap Some (same_value w v e)

is_kept-Some : (held : Option Cell) (v : Cell) → held ≡ Some v → is_kept held v ≡ true
is_kept-Some held v e = ap (λ h. is_kept h v) e ∙ value_itself v

-- the first value of a row that fits, and the others
pub row_parts : (c : Column) (columns : List Column) (v : Cell) (row : List Cell) → IsRow (c ∷ columns) (v ∷ row)
    → (fitted v c.kind ≡ Some v) × IsTrue (not (c.not_null && is_null v)) × IsRow columns row
row_parts c columns v row e =
    let parts = both_true (may_hold c v) (is_row columns row) e in
    let here = both_true (is_kept (fitted v c.kind) v) (not (c.not_null && is_null v)) parts.0 in
    (kept_is (fitted v c.kind) v here.0, here.1, parts.1)

-- they make a row that fits
pub row_made : (c : Column) (columns : List Column) (v : Cell) (row : List Cell) → fitted v c.kind ≡ Some v → IsTrue (not (c.not_null && is_null v))
    → IsRow columns row → IsRow (c ∷ columns) (v ∷ row)
row_made c columns v row kept stands rest = and_from (may_hold c v) (is_row columns row)
    (and_from (is_kept (fitted v c.kind) v) (not (c.not_null && is_null v)) (is_kept-Some (fitted v c.kind) v kept) stands) rest

-- a row that fits may be evaluated over its columns
pub row_of : (name : List ℕ) (columns : List Column) (row : List Cell) → IsRow columns row → IsRowOf (map (λ c. (Some name, c.name, c.kind)) columns) row
row_of name [] [] e = tt
row_of name [] (v ∷ row) e = cc
row_of name (c ∷ columns) [] e = cc
row_of name (c ∷ columns) (v ∷ row) e =
    let parts = row_parts c columns v row e in
    (parts.0, row_of name columns row parts.2)
