-- The names of message files.
use Rattle.std.specs.Prelude.{ℕ, zero, suc, ◌+◌, ◌/◌, ◌%◌, ◌^◌, nat_lt, List, [], ◌∷◌, ◌++◌, if◌then◌else◌}

-- the digit of a number below 16, in lower case
abbrev pub digit : ℕ → ℕ
digit n = if nat_lt n 10 then 48 + n else 87 + n

-- the last digits of a number, so many, the first of them first
abbrev pub digits : ℕ → ℕ → List ℕ
digits zero number = []
digits (suc count) number = digit (number / 16 ^ count % 16) ∷ digits count number

-- the sender's name, a dot, and the number as 16 digits
abbrev pub file_name_of : List ℕ → ℕ → List ℕ
file_name_of sender number = sender ++ 46 ∷ digits 16 number
