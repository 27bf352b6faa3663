-- Numbers among the words: decimal digits, without a sign and without a leading zero, 0 itself aside.
-- Here is what no contract of the program says by itself.
use Rattle.std.specs.Prelude.{◌+◌, ◌-◌, ◌*◌, ℕ, ◌&&◌, nat_le, if◌then◌else◌, Option, Some, None}
use Rattle.dbremote_words.specs.Numbers.{is_digit}

-- a number with one more digit, where it is no more than the most
abbrev pub with_digit : ℕ → ℕ → ℕ → Option ℕ
with_digit most number byte = if is_digit byte && nat_le (number * 10 + (byte - 48)) most then Some (number * 10 + (byte - 48)) else None
