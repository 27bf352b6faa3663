-- Offsets that rise.
use Rattle.std.specs.Prelude.{ℕ, ◌<◌, List, [], ◌∷◌, map}

-- each number lies above the one before it, and the first above this one
abbrev pub Rises : ℕ → List ℕ → Type 0
Rises low [] = Unit {0}
Rises low (x ∷ xs) = (low < x) × Rises x xs

-- the last number, or this one where there is none
abbrev pub top : ℕ → List ℕ → ℕ
top low [] = low
top low (x ∷ xs) = top x xs

-- the offsets of transactions
abbrev pub offsets : {Ops : Type 0} → List (ℕ × Ops) → List ℕ
offsets txs = map (λ tx. tx.0) txs
