-- A machine of entries: its state, and what each entry makes of it.
-- Here is what no contract of the program says by itself.
use Rattle.std.specs.Prelude.{◌≡◌, ℕ, ◌+◌, List, Some, All}
use Rattle.sr_book.specs.Entries.{Name, from_user, noted}
use Rattle.sr_book.specs.declared.note.Note.{Note}
use Rattle.sr_world_model.specs.Machines.{Machine}

-- the laws of one step, all that a fold owes; `HasSpelling`: each field of a transaction fits its place in a body;
-- `Fits`: an entry keeps every rule in this state and after this offset; `Holds`: what is so of every state on the way
pub record StepLaws {State Entry Ops : Type 0} (m : Machine State Entry Ops) (HasSpelling : (ℕ × Ops) → Type 0)
    (Fits : State → ℕ → Entry → Type 0) (Holds : State → Type 0) : Type 0 where
  pub at_first : (d : Name) → Holds (m.fresh d)
  pub kept : (s : State) (place : ℕ) (e : Entry) → Holds s → Fits s place e → Holds (m.next s e)
  -- what an entry gives has a spelling
  pub gives_fit : (s : State) (place : ℕ) (e : Entry) (user : Name) (ops : Ops) → Holds s → Fits s place e →
      m.gives s e user ≡ Some ops → HasSpelling (place + (m.size e + 5), ops)
  -- of transactions that have a spelling, no two lists have one body
  pub encoded_once : (a b : List (ℕ × Ops)) → All HasSpelling a → All HasSpelling b →
      m.encode a ≡ m.encode b → a ≡ b
  -- what a taken transaction comes to is settled by the state before it
  pub judged_once : (s : State) (place : ℕ) (e f : Entry) (user : Name) (at : ℕ) (ops : Ops) →
      m.sees e ≡ from_user user at ops → m.sees f ≡ from_user user at ops → Fits s place e → Fits s place f → e ≡ f

-- the laws of grants, which a fold owes besides; `Knows`: in this state the user is granted
pub record GrantLaws {State Entry Ops : Type 0} (m : Machine State Entry Ops) (Fits : State → ℕ → Entry → Type 0)
    (Knows : State → Name → Type 0) : Type 0 where
  -- who is granted stays so
  pub stays : (s : State) (place : ℕ) (e : Entry) (user : Name) → Fits s place e → Knows s user → Knows (m.next s e) user
  -- what is taken stands behind its user's grant
  pub taken_behind : (s : State) (place : ℕ) (e : Entry) (user : Name) (at : ℕ) (ops : Ops) → Fits s place e →
      m.sees e ≡ from_user user at ops → Knows s user
  -- a note stands behind its user's grant
  pub noted_behind : (s : State) (place : ℕ) (e : Entry) (user : Name) (note : Note) → Fits s place e →
      m.sees e ≡ noted user note → Knows s user
