-- What the world asks of the layers below it: what entries give, and what is taken.
use Rattle.std.specs.Prelude.{ℕ, ◌+◌, List, [], ◌∷◌, Option, Some, None}
use Rattle.sr_book.specs.Entries.{Name, Sight}

-- what the world needs of the layers below: of their entries, and of the ops that a transaction has
pub record Layers (Entry Ops : Type 0) : Type 0 where
  -- what the world sees of an entry
  pub sees : Entry → Sight Ops
  -- the length of an entry's body in bytes
  pub size : Entry → ℕ
  -- what the history of a database gives a user: each transaction with its offset, in order
  pub given : Name → Name → List Entry → List (ℕ × Ops)
  -- the body of a message with these transactions
  pub encode : List (ℕ × Ops) → List ℕ

-- the transaction that an entry ends at this offset and gives, where it gives ops
abbrev pub transaction : {Ops : Type 0} → ℕ → Option Ops → List (ℕ × Ops)
transaction place None = []
transaction place (Some ops) = (place, ops) ∷ []

module _ {Entry Ops : Type 0} (p : Layers Entry Ops) where
  -- the end of a history that goes on from an offset: an entry ends the length of its body and five bytes later
  abbrev pub end_from : ℕ → List Entry → ℕ
  end_from place [] = place
  end_from place (e ∷ es) = end_from (place + (p.size e + 5)) es

  -- the end of a history
  abbrev pub end_of : List Entry → ℕ
  end_of es = end_from 0 es
