-- Encodings that are taken apart into fragments while they are written.
use Rattle.std.specs.Prelude.{◌≡◌, ℕ, ◌<◌, ◌≤◌, List, ◌++◌, length}
use Rattle.std.specs.List.{concat, AllByRecursion}

-- bytes, and how many of them a fragment takes
pub record Encoding : Type 0 where
  pub room : ℕ
  pub bytes : List ℕ

-- the bytes of full fragments and of what is left behind them
abbrev pub parted : List (List ℕ) → List ℕ → List ℕ
parted full left = concat full ++ left

-- each fragment is full; no more is left than a fragment takes, and something is where there is a fragment
pub record IsParted (room : ℕ) (full : List (List ℕ)) (left : List ℕ) : Type 0 where
  pub wide : 0 < room
  pub each : AllByRecursion (λ f. length f ≡ room) full
  pub fits : length left ≤ room
  pub some : 0 < length full → 0 < length left
