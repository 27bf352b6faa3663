-- What was written of a text.
use Rattle.std.specs.Prelude.{◌≡◌, ℕ, List, ◌++◌}

-- a list is the front of another
abbrev pub IsPrefix : {A : Type 0} → List A → List A → Type 0
IsPrefix {A} prefix whole = (left : List A) × (whole ≡ prefix ++ left)

-- behind what was written before, the front of a text
pub record WrotePrefix (text old new : List ℕ) : Type 0 where
  pub written : List ℕ
  pub prefix : IsPrefix written text
  pub new_is : new ≡ old ++ written

-- of a text some bytes were written behind what was there before, and these are kept to be written
pub record Said (text kept old new : List ℕ) : Type 0 where
  pub written : List ℕ
  pub new_is : new ≡ old ++ written
  pub all : text ≡ written ++ kept
