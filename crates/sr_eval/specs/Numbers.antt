-- Arithmetic on values. Past its type's end a number has no value.
use Rattle.std.specs.Prelude.{◌-◌, ◌^◌, Bool, ◌&&◌, if◌then◌else◌, ℤ, pos, neg_ℤ, int_le, Option, Some, None}
use Rattle.sr_base.specs.Fitting.{is_int}
use Rattle.sr_base.specs.declared.value.Value.{Value}
use Rattle.sr_base.specs.declared.value.Value.TheVariants.{Null, Int, Big, Str, Date}

-- 64 bits hold the number
abbrev pub is_big : ℤ → Bool
is_big n = int_le (neg_ℤ (pos (2 ^ 63))) n && int_le n (pos (2 ^ 63 - 1))

-- the INTEGER of a number
abbrev pub int_of : ℤ → Option Value
int_of n = if is_int n then Some (Int n) else None

-- the BIGINT of a number
abbrev pub big_of : ℤ → Option Value
big_of n = if is_big n then Some (Big n) else None

-- a value with the sign turned; NULL of what is no number
abbrev pub negated : Value → Option Value
negated Null = Some Null
negated (Int a) = int_of (neg_ℤ a)
negated (Big a) = big_of (neg_ℤ a)
negated (Str text) = Some Null
negated (Date day) = Some Null

-- two INTEGERs give an INTEGER, and with a BIGINT it is a BIGINT; NULL where an operand is no number
abbrev pub arithmetic : (ℤ → ℤ → ℤ) → Value → Value → Option Value
arithmetic f (Int a) (Int b) = int_of (f a b)
arithmetic f (Int a) (Big b) = big_of (f a b)
arithmetic f (Big a) (Int b) = big_of (f a b)
arithmetic f (Big a) (Big b) = big_of (f a b)
arithmetic f a b = Some Null
