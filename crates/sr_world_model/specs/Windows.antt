-- Which transactions a window has.
use Rattle.std.specs.Prelude.{ℕ, List, filter, nat_lt, nat_le, ◌&&◌}

-- the transactions past one offset and up to another
abbrev pub window : {Ops : Type 0} → ℕ → ℕ → List (ℕ × Ops) → List (ℕ × Ops)
window prev upto txs = filter (λ tx. nat_lt prev tx.0 && nat_le tx.0 upto) txs

-- the transactions past an offset
abbrev pub past : {Ops : Type 0} → ℕ → List (ℕ × Ops) → List (ℕ × Ops)
past prev txs = filter (λ tx. nat_lt prev tx.0) txs
