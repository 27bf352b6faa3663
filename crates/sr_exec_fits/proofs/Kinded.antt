-- Which values a column of a type holds as they are.
use Rattle.std.proofs.Common.{◌≡◌, ◌-◌, ◌^◌, ◌<◌, ℕ, ℤ, pos, negsuc, neg_ℤ, int_le, Bool, true, false, cond, List, length, Option, Some, None, nat_le, refl, ap, ◌∙◌, FitsSigned, arith}
use Rattle.std.specs.Int.{w32}
use Rattle.std.proofs.lemmas.Bool.{and_from, le-leb}
use Rattle.std.specs.Option.{option_map}
use Rattle.std.specs.Ordering.{is_eq, ordering_then}
use Rattle.std.specs.declared.cmp.Ordering.{Ordering}
use Rattle.std.specs.declared.cmp.Ordering.TheVariants.{Less, Equal, Greater}
use Rattle.sr_base.specs.Fitting.{is_int}
use Rattle.sr_base.specs.Order.{worth_cmp}
use Rattle.sr_base.specs.declared.value.Kind.{Kind}
use Rattle.sr_base.specs.declared.value.Kind.TheVariants as kind
use Rattle.sr_base.specs.declared.value.Value.{Value as Cell}
use Rattle.sr_base.specs.declared.value.Value.TheVariants.{Null, Int, Big, Str, Date}
use Rattle.sr_base_dates.specs.Calendar.{day_named}
use Rattle.sr_base_dates.specs.Fitting.{fitted}
use Rattle.sr_exec_fits.specs.Rows.{is_kept}
use Rattle.sr_exec_fits.proofs.Rows.{value_itself}

then_less : (o : Ordering) → is_eq (ordering_then o Less) ≡ false
then_less Less = refl
then_less Equal = refl
then_less Greater = refl

then_greater : (o : Ordering) → is_eq (ordering_then o Greater) ≡ false
then_greater Less = refl
then_greater Equal = refl
then_greater Greater = refl

pub null_kept : (k : Kind) → is_kept (fitted Null k) Null ≡ true
null_kept k = value_itself Null

pub int_in_int : (n : ℤ) → is_int n ≡ true → is_kept (fitted (Int n) kind.Int) (Int n) ≡ true
int_in_int n e = ap (λ b. is_kept (cond b (Some (Int n)) None) (Int n)) e ∙ value_itself (Int n)

-- an INTEGER of 32 bits
pub fits_int : (n : ℤ) → FitsSigned w32 n → is_int n ≡ true
fits_int (pos n) f =
    let low : n < 2 ^ 31 = f.sfits in
    and_from (int_le (neg_ℤ (pos (2 ^ 31))) (pos n)) (int_le (pos n) (pos (2 ^ 31 - 1))) refl (le-leb n (2 ^ 31 - 1) (omega arith))
fits_int (negsuc n) f =
    let low : n < 2 ^ 31 = f.sfits in
    and_from (int_le (neg_ℤ (pos (2 ^ 31))) (negsuc n)) (int_le (negsuc n) (pos (2 ^ 31 - 1))) (le-leb n (2 ^ 31 - 1) (omega arith)) refl

pub int_kept : (n : ℤ) → FitsSigned w32 n → is_kept (fitted (Int n) kind.Int) (Int n) ≡ true
int_kept n f = int_in_int n (fits_int n f)

pub big_in_big : (n : ℤ) → is_kept (fitted (Big n) kind.Big) (Big n) ≡ true
big_in_big n = value_itself (Big n)

pub big_in_int : (n : ℤ) → is_kept (fitted (Big n) kind.Int) (Big n) ≡ false
big_in_int n = go (is_int n) where
  go : (b : Bool) → is_kept (cond b (Some (Int n)) None) (Big n) ≡ false
  go true = then_less (worth_cmp (Int n) (Big n))
  go false = refl

pub int_in_big : (n : ℤ) → is_kept (fitted (Int n) kind.Big) (Int n) ≡ false
int_in_big n = then_greater (worth_cmp (Big n) (Int n))

pub text_in_text : (text : List ℕ) (limit : ℕ) → is_kept (fitted (Str text) (kind.Varchar limit)) (Str text) ≡ nat_le (length text) limit
text_in_text text limit = go (nat_le (length text) limit) where
  go : (b : Bool) → is_kept (cond b (Some (Str text)) None) (Str text) ≡ b
  go true = value_itself (Str text)
  go false = refl

pub text_in_date : (text : List ℕ) → is_kept (fitted (Str text) kind.Date) (Str text) ≡ false
text_in_date text = go (day_named text) where
  go : (o : Option ℤ) → is_kept (option_map Date o) (Str text) ≡ false
  go None = refl
  go (Some day) = refl

pub date_in_date : (day : ℤ) → is_kept (fitted (Date day) kind.Date) (Date day) ≡ true
date_in_date day = value_itself (Date day)

pub ruleset kept = (null_kept, int_kept, int_in_big, big_in_big, big_in_int, text_in_text, text_in_date, date_in_date)
