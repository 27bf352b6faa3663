-- Numbers among the words: decimal digits, without a sign and without a leading zero, 0 itself aside.
use Rattle.std.specs.Prelude.{◌+◌, ◌-◌, ◌*◌, ◌==◌, ℕ, Bool, List, [], ◌∷◌, length, ◌&&◌, nat_le, nat_lt, if◌then◌else◌, Option, Some, None}
use Rattle.std.specs.Option.{option_and_then}

abbrev pub is_digit : ℕ → Bool
is_digit byte = nat_le 48 byte && nat_le byte 57

-- what digits come to behind a number; none where one is no digit
abbrev pub digits_behind : ℕ → List ℕ → Option ℕ
digits_behind number [] = Some number
digits_behind number (byte ∷ bytes) = if is_digit byte then digits_behind (number * 10 + (byte - 48)) bytes else None

-- what a word comes to: a zero (48) stands at its front only alone
abbrev pub number_in : List ℕ → Option ℕ
number_in [] = None
number_in (first ∷ bytes) = if first == 48 && nat_lt 0 (length bytes) then None else digits_behind 0 (first ∷ bytes)

-- a number, where it is from the least to the most
abbrev pub within : ℕ → ℕ → ℕ → Option ℕ
within least most number = if nat_le least number && nat_le number most then Some number else None

abbrev pub number_within : ℕ → ℕ → List ℕ → Option ℕ
number_within least most word = option_and_then (within least most) (number_in word)
