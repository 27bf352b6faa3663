-- A row that an article holds for a subscription has a key of it.
use Rattle.std.proofs.Common.{◌≡◌, Bool, true, false, ◌&&◌, ◌||◌, cond, List, [], ◌∷◌, Option, Some, None, refl, sym, ap, arith, ◌∙◌}
use Rattle.std.specs.List.{list_any}
use Rattle.std.specs.Ordering.{eq_by_cmp}
use Rattle.sr_ast.specs.Exprs.{term_of}
use Rattle.sr_ast.specs.declared.expr.Expr.{Expr}
use Rattle.sr_base.specs.Order.{value_cmp}
use Rattle.sr_base.specs.declared.value.Value.{Value as Cell}
use Rattle.sr_base.specs.declared.value.Value.TheVariants.{Null, Int, Big, Str, Date}
use Rattle.sr_book.specs.Entries.{Name}
use Rattle.sr_catalog_schema.specs.declared.publication.Article.{Article}
use Rattle.sr_catalog_schema.specs.declared.table.Table.{Table}
use Rattle.sr_eval.specs.Comparisons.{is_null}
use Rattle.sr_exec_fits.proofs.Rows.{same_value}
use Rattle.sr_publish.proofs.Equalities.{has_widened, has_null}
use Rattle.sr_publish.specs.Inner.Laws.{values_in, holds_by}
use Rattle.sr_publish.specs.Inner.Numbers.{widened}
use Rattle.sr_publish.specs.Views.{equals, meets, by_value, goes_to, is_one_of}
use Rattle.sr_survey.specs.Inner.Keyed.{keys_of, key_of_value, key_of_some, key_by, article_key, IsSharedKey}
use Rattle.sr_survey_places.specs.declared.key.Key.TheVariants.{Whole, Part}

or_false : (a : Bool) → (a || false) ≡ a
or_false true = refl
or_false false = refl

-- a value that equals the only one of others is it, once both are widened
one_value : (v w : Cell) → is_null v ≡ false → list_any (equals v) (w ∷ []) ≡ true → widened v ≡ widened w
one_value v w isnt e = same_value (widened v) (widened w) (sym (or_false (eq_by_cmp value_cmp (widened v) (widened w))) ∙ sym (has_widened v (w ∷ []) isnt) ∙ e)

of_part : (p : Name) (v w : Cell) → key_of_value p v ≡ Some (Part p (widened v)) → widened v ≡ widened w → IsSharedKey (key_of_value p v) (keys_of p (Some w))
of_part p v w is e = record { key = Part p (widened v); is = is; there = (1, omega arith, ap (Part p) (sym e)) }

by_part : (p : Name) (o value : Option Cell) → is_one_of (values_in value) o ≡ true → IsSharedKey (key_of_some p o) (keys_of p value)
by_part p None value e = cc
by_part p (Some v) None e = cc
by_part p (Some Null) (Some w) e = let impossible : false ≡ true = sym (has_null (w ∷ [])) ∙ e in cc
by_part p (Some (Int n)) (Some w) e = of_part p (Int n) w refl (one_value (Int n) w refl e)
by_part p (Some (Big n)) (Some w) e = of_part p (Big n) w refl (one_value (Big n) w refl e)
by_part p (Some (Str text)) (Some w) e = of_part p (Str text) w refl (one_value (Str text) w refl e)
by_part p (Some (Date day)) (Some w) e = of_part p (Date day) w refl (one_value (Date day) w refl e)

by_goes : (p : Name) (t : Table) (by : Option Expr) (value : Option Cell) (row : List Cell) → goes_to t by (values_in value) row ≡ true → IsSharedKey (key_by p t by row) (keys_of p value)
by_goes p t None value row e = record { key = Whole p; is = refl; there = (0, omega arith, refl) }
by_goes p t (Some x) value row e = by_part p (by_value t row (term_of x)) value e

pub held_keyed : (p : Name) (t : Table) (a : Article) (value : Option Cell) (row : List Cell) → holds_by t (Some a) value row ≡ true → IsSharedKey (article_key t row (p, a)) (keys_of p value)
held_keyed p t a value row e = go (meets t a.condition row) e where
  go : (b : Bool) → (b && goes_to t a.by (values_in value) row) ≡ true → IsSharedKey (cond b (key_by p t a.by row) None) (keys_of p value)
  go true g = by_goes p t a.by value row g
  go false g = cc
