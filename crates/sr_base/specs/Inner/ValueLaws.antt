-- Days and values: what is read is spelled so, and what is spelled is read again.
use Rattle.std.proofs.Common.{◌≡◌, ℕ, true, cond, List, ◌++◌, length, Ok, Err, refl, subst, arith}
use Rattle.std.specs.Prelude.{ℤ, FitsSigned}
use Rattle.std.specs.Int.{w32}
use Rattle.std.proofs.lemmas.Int.{ints}
use Rattle.sr_base.specs.declared.value.Value.{Value}
use Rattle.sr_base.specs.declared.value.Value.TheVariants.{Null, Int, Big, Str, Date}
use Rattle.sr_base.specs.Days.{IsDay}
use Rattle.sr_base.specs.Fields.{signed_spelling}
use Rattle.sr_base.specs.Reading.{signed_at, is_day, day_at, value_at}
use Rattle.sr_base.specs.Inner.NumberLaws.{within_ok, within_err, within_cond, within_then, bind_ok, passed_ok, signed_format32, signed_format64, format64}
use Rattle.sr_base.specs.Inner.PartLaws.{IsTable, tag_table, no_table, variant, bare_variant, mapped_format}
use Rattle.sr_base.specs.Inner.Reading.{IsBytes, Takes, IsWithin, IsFormat}
use Rattle.sr_base.specs.Inner.TextLaws.{text_format}
use Rattle.sr_base.specs.Values.{offset_from, offset_spelling, IsOffset, value_spelling, IsValue}
use Rattle.sr_base.specs.Inner.Values.{offset_at}

pub is_day-true : (days : ℤ) → is_day days ≡ true → IsDay days
is_day-true days e = record { first = grind (arith, ints); last = grind (arith, ints) }

pub is_day-from : (days : ℤ) → IsDay days → is_day days ≡ true
is_day-from days h = grind (arith, ints)

pub IsDay-fits : (days : ℤ) → IsDay days → FitsSigned w32 days
IsDay-fits days h = search (arith, ints)

day_takes : (bytes : List ℕ) (days : ℤ) (rest : List ℕ) → IsBytes bytes → day_at bytes ≡ Ok (days, rest) → Takes bytes (signed_spelling w32 days) rest × IsDay days
unfolding day_at
day_takes bytes days rest h e =
    let b = bind_ok (signed_at w32 bytes) (λ found. cond (is_day found.0) (Ok found) (Err (length bytes))) (days, rest) e in
    let t = signed_format32.takes bytes b.0.0 b.0.1 h b.1 in
    let g = passed_ok (is_day b.0.0) (length bytes) b.0 (days, rest) b.2 in
    subst (λ (r : ℤ × List ℕ). Takes bytes (signed_spelling w32 r.0) r.1 × IsDay r.0) g.1 (t.0, is_day-true b.0.0 g.0)

day_again : (days : ℤ) (rest : List ℕ) → IsDay days → day_at (signed_spelling w32 days ++ rest) ≡ Ok (days, rest)
unfolding day_at
day_again days rest h = rw (signed_format32.again days rest (IsDay-fits days h), is_day-from days h) refl

day_within : (bytes : List ℕ) → IsBytes bytes → IsWithin (day_at bytes) (length bytes)
unfolding day_at
day_within bytes h =
    within_then signed_format32 bytes (λ found. cond (is_day found.0) (Ok found) (Err (length bytes))) (length bytes) h (omega arith)
    (λ found h1 le1. within_cond (is_day found.0) (Ok found) (Err (length bytes)) (length bytes) (within_ok found (length bytes)) (within_err (length bytes) (length bytes) (omega arith)))

pub day_format : IsFormat day_at (signed_spelling w32) IsDay
day_format = record { takes = day_takes; again = day_again; within = day_within }

pub offset_format : IsFormat offset_at offset_spelling IsOffset
offset_format = mapped_format offset_from (λ offset. offset.0) (λ position. refl) (λ offset. refl) format64

value_table : IsTable value_at value_spelling IsValue
unfolding value_at value_spelling IsValue
value_table =
    tag_table (bare_variant refl tt)
    (tag_table (variant signed_format32 Int (λ x. refl) (λ x h. h))
    (tag_table (variant signed_format64 Big (λ x. refl) (λ x h. h))
    (tag_table (variant text_format Str (λ x. refl) (λ x h. h))
    (tag_table (variant day_format Date (λ x. refl) (λ x h. h)) no_table))))

value_again : (value : Value) (rest : List ℕ) → IsValue value → value_at (value_spelling value ++ rest) ≡ Ok (value, rest)
unfolding value_at value_spelling IsValue
value_again Null rest h = refl
value_again (Int number) rest h = rw (signed_format32.again number rest h) refl
value_again (Big number) rest h = rw (signed_format64.again number rest h) refl
value_again (Str text) rest h = rw (text_format.again text rest h) refl
value_again (Date days) rest h = rw (day_format.again days rest h) refl

pub value_format : IsFormat value_at value_spelling IsValue
value_format = record { takes = value_table.takes; again = value_again; within = value_table.within }
