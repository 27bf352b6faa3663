-- Which numbers an INTEGER holds.
use Rattle.std.specs.Prelude.{◌-◌, ◌^◌, int_le, Bool, ◌&&◌, ℤ, pos, neg_ℤ}

-- 32 bits hold the number
abbrev pub is_int : ℤ → Bool
is_int n = int_le (neg_ℤ (pos (2 ^ 31))) n && int_le n (pos (2 ^ 31 - 1))
