-- The bytes of options, pairs and triples, and how they are read.
-- Here is what no contract of the program says by itself.
use Rattle.std.specs.Prelude.{ℕ, zero, suc, nat_lt, List, [], ◌∷◌, length, take, drop, Option, Some, None, Ok, Err, if◌then◌else◌}
use Rattle.std.specs.Int.{w32}
use Rattle.sr_base.specs.Reading.{Read, ◌>>=◌, number_at}

unfoldable pub bytes_at : List ℕ → Read (List ℕ)
bytes_at bytes = do
  size ← number_at w32 bytes
  if nat_lt (length size.1) size.0 then Err (length bytes) else Ok (take size.0 size.1, drop size.0 size.1)

unfoldable pub option_at : {A : Type 0} → (List ℕ → Read A) → List ℕ → Read (Option A)
option_at item [] = Err 0
option_at item (zero ∷ rest) = Ok (None, rest)
option_at item (suc zero ∷ rest) = do
  value ← item rest
  Ok (Some value.0, value.1)
option_at item (suc (suc flag) ∷ rest) = Err (suc (length rest))

unfoldable pub pair_at : {A B : Type 0} → (List ℕ → Read A) → (List ℕ → Read B) → List ℕ → Read (A × B)
pair_at first second bytes = do
  one ← first bytes
  two ← second one.1
  Ok ((one.0, two.0), two.1)

unfoldable pub triple_at : {A B C : Type 0} → (List ℕ → Read A) → (List ℕ → Read B) → (List ℕ → Read C) → List ℕ → Read (A × B × C)
triple_at first second third bytes = do
  one ← first bytes
  two ← second one.1
  three ← third two.1
  Ok ((one.0, two.0, three.0), three.1)
