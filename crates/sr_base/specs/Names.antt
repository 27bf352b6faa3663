-- What a name is made of, and a name in lower case.
use Rattle.std.specs.Prelude.{ℕ, Bool, false, List, [], ◌∷◌, length, map, nat_le, nat_eq, ◌&&◌, ◌||◌}
use Rattle.std.specs.Char.{to_ascii_lowercase}
use Rattle.std.specs.List.{list_all}

-- a lower-case letter, `a` to `z`
abbrev pub is_lower_letter : ℕ → Bool
is_lower_letter byte = nat_le 97 byte && nat_le byte 122

-- a digit, `0` to `9`
abbrev pub is_digit : ℕ → Bool
is_digit byte = nat_le 48 byte && nat_le byte 57

-- what a name may begin with: a letter or `_`, the letter in lower case
abbrev pub is_first : ℕ → Bool
is_first byte = is_lower_letter byte || nat_eq byte 95

-- what may follow
abbrev pub is_later : ℕ → Bool
is_later byte = is_first byte || is_digit byte

-- a letter or `_`, then letters, digits and `_`, the letters in lower case; at most 64 bytes
abbrev pub is_lower_name : List ℕ → Bool
is_lower_name [] = false
is_lower_name (byte ∷ bytes) = is_first byte && list_all is_later bytes && nat_le (length bytes) 63

-- a letter, `A` to `Z` or `a` to `z`
abbrev pub is_letter : ℕ → Bool
is_letter byte = is_lower_letter byte || nat_le 65 byte && nat_le byte 90

-- what a name in any case may begin with, and what may follow
abbrev pub is_any_first : ℕ → Bool
is_any_first byte = is_letter byte || nat_eq byte 95

abbrev pub is_any_later : ℕ → Bool
is_any_later byte = is_any_first byte || is_digit byte

-- a name as it is written, in any case: a letter or `_`, then letters, digits and `_`; at most 64 bytes
abbrev pub is_name : List ℕ → Bool
is_name [] = false
is_name (byte ∷ bytes) = is_any_first byte && list_all is_any_later bytes && nat_le (length bytes) 63

-- the bytes with `A` to `Z` in lower case, as a name is kept
abbrev pub lowered : List ℕ → List ℕ
lowered bytes = map to_ascii_lowercase bytes
