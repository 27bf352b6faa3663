-- What comes in, and what goes out.
use Rattle.std.specs.Prelude.{◌≡◌, ◌≤◌, ℕ, Bool, List}

-- what a source means: whether it tells its bytes, those that are left, and how many calls have failed
pub record Input : Type 0 where
  pub observable : Bool
  pub left : List ℕ
  pub faults : ℕ

-- what a sink means: whether it tells its bytes, those that it took, and how many calls have failed
pub record Output : Type 0 where
  pub observable : Bool
  pub taken : List ℕ
  pub faults : ℕ

-- what every call of a source leaves
pub record InputStays (old new : Input) : Type 0 where
  pub observable : new.observable ≡ old.observable
  pub later : old.faults ≤ new.faults

-- what every call of a sink leaves
pub record OutputStays (old new : Output) : Type 0 where
  pub observable : new.observable ≡ old.observable
  pub later : old.faults ≤ new.faults
