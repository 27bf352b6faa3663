-- What a log's file has while a record is appended.
use Rattle.std.specs.Prelude.{◌≡◌, ◌⊎◌, ℕ, List, ◌∷◌, ◌++◌, length}

-- bytes that go on behind a prefix and a gate
pub record GoesOn (prefix : List ℕ) (gate : ℕ) (bytes : List ℕ) : Type 0 where
  pub rest : List ℕ
  pub bytes_are : bytes ≡ prefix ++ gate ∷ rest

-- bytes that hold a framed record behind a prefix and a gate
pub record HasRecord (prefix : List ℕ) (gate : ℕ) (framed bytes : List ℕ) : Type 0 where
  pub rest : List ℕ
  pub bytes_are : bytes ≡ prefix ++ gate ∷ (framed ++ rest)

-- the record stands behind some gate
pub record HasGatedRecord (prefix framed bytes : List ℕ) : Type 0 where
  pub gate : ℕ
  pub holds : HasRecord prefix gate framed bytes

-- what a refusal of the disk leaves: the closed gate stands, or the whole record stands behind it and the gate may be any byte
abbrev pub HasPart : List ℕ → ℕ → List ℕ → List ℕ → Type 0
HasPart prefix gate framed bytes = GoesOn prefix gate bytes ⊎ HasGatedRecord prefix framed bytes

-- where the gate stands at that place of the old bytes, a refusal of the disk leaves a part
pub record LeavesPart (place : ℕ) (framed old new : List ℕ) : Type 0 where
  pub part : (prefix rest : List ℕ) (gate : ℕ) → old ≡ prefix ++ gate ∷ rest → length prefix ≡ place → HasPart prefix gate framed new

-- where the gate stands at that place of the old bytes, the new bytes hold the record behind it, and it is open
pub record LeavesRecord (place : ℕ) (framed old new : List ℕ) : Type 0 where
  pub opened : (prefix rest : List ℕ) (gate : ℕ) → old ≡ prefix ++ gate ∷ rest → length prefix ≡ place → HasRecord prefix 1 framed new
