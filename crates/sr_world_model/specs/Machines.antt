-- A machine of entries: its state, and what each entry makes of it.
use Rattle.std.specs.Prelude.{ℕ, ◌+◌, List, [], ◌∷◌, ◌++◌, Option}
use Rattle.sr_book.specs.Entries.{Name, Sight}
use Rattle.sr_world_model.specs.Layers.{transaction, Layers}

-- a fold over histories: what each entry gives, and what it leaves, is by the state that those before it leave
pub record Machine (State Entry Ops : Type 0) : Type 0 where
  -- the state of a database of this name before any entry
  pub fresh : Name → State
  -- the state after an entry
  pub next : State → Entry → State
  pub sees : Entry → Sight Ops
  pub size : Entry → ℕ
  -- what an entry gives a user, by the state before it
  pub gives : State → Entry → Name → Option Ops
  pub encode : List (ℕ × Ops) → List ℕ

module _ {State Entry Ops : Type 0} (m : Machine State Entry Ops) where
  -- the state after some entries
  abbrev pub state_from : State → List Entry → State
  state_from s [] = s
  state_from s (e ∷ es) = state_from (m.next s e) es

  -- the state after a history
  abbrev pub state_of : Name → List Entry → State
  state_of d es = state_from (m.fresh d) es

  -- what the entries give a user, one after the other
  abbrev pub given_from : State → ℕ → Name → List Entry → List (ℕ × Ops)
  given_from s place user [] = []
  given_from s place user (e ∷ es) = transaction (place + (m.size e + 5)) (m.gives s e user)
      ++ given_from (m.next s e) (place + (m.size e + 5)) user es

  -- what the world needs, of a fold
  abbrev pub layers_of : Layers Entry Ops
  layers_of = record {
    sees = m.sees;
    size = m.size;
    given = λ d user es. given_from (m.fresh d) 0 user es;
    encode = m.encode;
  }

  module _ (Fits : State → ℕ → Entry → Type 0) where
    -- the entries keep every rule, one after the other: each fits the state and the offset that those before it leave
    abbrev pub lawful_from : State → ℕ → List Entry → Type 0
    lawful_from s place [] = Unit {0}
    lawful_from s place (e ∷ es) = Fits s place e × lawful_from (m.next s e) (place + (m.size e + 5)) es

    -- the history of a database of this name keeps every rule
    abbrev pub lawful_by : Name → List Entry → Type 0
    lawful_by d es = lawful_from (m.fresh d) 0 es
