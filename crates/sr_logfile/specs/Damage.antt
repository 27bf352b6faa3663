-- Where a log is damaged.
use Rattle.std.specs.Prelude.{◌≡◌, ℕ, ◌+◌, ◌≤◌, ◌⊎◌, List, ◌∷◌, ◌++◌, length}
use Rattle.std.specs.List.{AllByRecursion}
use Rattle.sr_base.specs.Values.{farthest_offset}
use Rattle.sr_logfile.specs.Records.{header, record_of, open_records, IsBody, HasHeader, Spells}

-- what follows an open gate at a stream position begins with a whole record of that body: it fits in front of the last offset, and a gate
-- stands behind it
pub record BeginsRecord (body : List ℕ) (position : ℕ) (rest : List ℕ) : Type 0 where
  pub gate : ℕ
  pub more : List ℕ
  pub rest_is : rest ≡ record_of body ++ gate ∷ more
  pub is_body : IsBody body
  pub limit : position + 5 + length body ≤ farthest_offset

-- no base has its header there
abbrev pub LacksHeader : List ℕ → Type 0
LacksHeader bytes = (base : ℕ) → HasHeader base bytes → ⊥

-- the first open gate that no whole record follows stands at this place
pub record LacksRecord (bytes : List ℕ) (place : ℕ) : Type 0 where
  pub base : ℕ
  pub bodies : List (List ℕ)
  pub rest : List ℕ
  pub bytes_are : bytes ≡ (header base ++ open_records bodies) ++ 1 ∷ rest
  pub place_is : place ≡ length (header base ++ open_records bodies)
  pub all_bodies : AllByRecursion IsBody bodies
  pub limit : base + length (open_records bodies) ≤ farthest_offset
  pub broken : (body : List ℕ) → BeginsRecord body (base + length (open_records bodies)) rest → ⊥

-- a log file is damaged at a place: at 0 where its header is not whole, else at the gate of the first open record that is not as written
abbrev pub IsDamaged : List ℕ → ℕ → Type 0
IsDamaged bytes place = (LacksHeader bytes × (place ≡ 0)) ⊎ LacksRecord bytes place

-- bytes that stand for some base and bodies
pub record IsSpelled (bytes : List ℕ) : Type 0 where
  pub base : ℕ
  pub bodies : List (List ℕ)
  pub spells : Spells base bodies bytes

-- bytes that are damaged somewhere
pub record IsDamagedSomewhere (bytes : List ℕ) : Type 0 where
  pub place : ℕ
  pub damage : IsDamaged bytes place
