-- What the world asks of the layers below it: what entries give, and what is taken.
-- Here is what no contract of the program says by itself.
use Rattle.std.specs.Prelude.{◌≡◌, ℕ, ◌+◌, List, [], ◌∷◌, ◌++◌, Option, All}
use Rattle.sr_book.specs.Entries.{Name, from_user}
use Rattle.sr_world_model.specs.Layers.{Layers, transaction, end_of}

-- the laws of the layers below, all that the theorems cite; `HasSpelling`: each field of a transaction fits its place in a body;
-- `lawful`: the history of a database of this name keeps every rule
pub record Laws {Entry Ops : Type 0} (p : Layers Entry Ops) (HasSpelling : (ℕ × Ops) → Type 0)
    (lawful : Name → List Entry → Type 0) : Type 0 where
  -- nothing gives nothing
  pub given_none : (d user : Name) → p.given d user [] ≡ []
  -- an entry more gives nothing more, or one transaction that ends where the entry does
  pub given_more : (d user : Name) (es : List Entry) (e : Entry) →
      (gave : Option Ops) × (p.given d user (es ++ e ∷ []) ≡ p.given d user es ++ transaction (end_of p (es ++ e ∷ [])) gave)
  -- nothing keeps every rule
  pub lawful_none : (d : Name) → lawful d []
  -- what a lawful history gives has a spelling: of its fields, not of its length
  pub given_fit : (d user : Name) (es : List Entry) → lawful d es → All HasSpelling (p.given d user es)
  -- of transactions that have a spelling, no two lists have one body
  pub encoded_once : (a b : List (ℕ × Ops)) → All HasSpelling a → All HasSpelling b → p.encode a ≡ p.encode b → a ≡ b
  -- what a taken transaction comes to is settled by the history before it
  pub judged_once : (d : Name) (es : List Entry) (e f : Entry) (user : Name) (place : ℕ) (ops : Ops) →
      p.sees e ≡ from_user user place ops → p.sees f ≡ from_user user place ops →
      lawful d (es ++ e ∷ []) → lawful d (es ++ f ∷ []) → e ≡ f
