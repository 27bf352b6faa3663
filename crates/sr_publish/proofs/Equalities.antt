-- Comparison finds two values equal exactly where they are one once each INTEGER is taken as a BIGINT, and neither is NULL.
use Rattle.std.proofs.Common.{◌≡◌, Bool, true, false, not, ◌&&◌, List, [], ◌∷◌, ◌||◌, refl, sym, ap, ◌∙◌}
use Rattle.std.specs.List.{list_any}
use Rattle.std.specs.Ordering.{eq_by_cmp, is_eq, ordering_then}
use Rattle.std.specs.declared.cmp.Ordering.{Ordering}
use Rattle.std.specs.declared.cmp.Ordering.TheVariants.{Less, Equal, Greater}
use Rattle.sr_base.specs.Order.{value_cmp, worth_cmp}
use Rattle.sr_base.specs.declared.value.Value.{Value as Cell}
use Rattle.sr_base.specs.declared.value.Value.TheVariants.{Null, Int, Big, Str, Date}
use Rattle.sr_eval.specs.Comparisons.{is_null}
use Rattle.sr_publish.specs.Inner.Numbers.{widened}
use Rattle.sr_publish.specs.Views.{equals}

then_Equal : (o : Ordering) → is_eq o ≡ is_eq (ordering_then o Equal)
then_Equal Less = refl
then_Equal Equal = refl
then_Equal Greater = refl

equals-widened : (a b : Cell) → is_null a ≡ false → equals a b ≡ eq_by_cmp value_cmp (widened a) (widened b)
equals-widened Null b h = cc
equals-widened (Int a) Null h = refl
equals-widened (Int a) (Int b) h = then_Equal (worth_cmp (Int a) (Int b))
equals-widened (Int a) (Big b) h = then_Equal (worth_cmp (Int a) (Big b))
equals-widened (Int a) (Str b) h = refl
equals-widened (Int a) (Date b) h = refl
equals-widened (Big a) Null h = refl
equals-widened (Big a) (Int b) h = then_Equal (worth_cmp (Big a) (Int b))
equals-widened (Big a) (Big b) h = then_Equal (worth_cmp (Big a) (Big b))
equals-widened (Big a) (Str b) h = refl
equals-widened (Big a) (Date b) h = refl
equals-widened (Str a) Null h = refl
equals-widened (Str a) (Int b) h = refl
equals-widened (Str a) (Big b) h = refl
equals-widened (Str a) (Str b) h = then_Equal (worth_cmp (Str a) (Str b))
equals-widened (Str a) (Date b) h = refl
equals-widened (Date a) Null h = refl
equals-widened (Date a) (Int b) h = refl
equals-widened (Date a) (Big b) h = refl
equals-widened (Date a) (Str b) h = refl
equals-widened (Date a) (Date b) h = then_Equal (worth_cmp (Date a) (Date b))

-- a value that is not NULL is looked up as the BIGINT that it is, or as itself
pub has_widened : (v : Cell) (values : List Cell) → is_null v ≡ false
    → list_any (equals v) values ≡ list_any (λ w. eq_by_cmp value_cmp (widened v) (widened w)) values
has_widened v [] h = refl
has_widened v (w ∷ values) h = ap (λ b. b || list_any (equals v) values) (equals-widened v w h)
    ∙ ap (λ b. eq_by_cmp value_cmp (widened v) (widened w) || b) (has_widened v values h)

-- NULL equals nothing
pub has_null : (values : List Cell) → list_any (equals Null) values ≡ false
has_null [] = refl
has_null (w ∷ values) = ap (λ b. b || list_any (equals Null) values) (null_equals w) ∙ has_null values where
  null_equals : (w : Cell) → equals Null w ≡ false
  null_equals Null = refl
  null_equals (Int n) = refl
  null_equals (Big n) = refl
  null_equals (Str text) = refl
  null_equals (Date day) = refl
