-- The actions of a trigger as a chain, without where they lie in memory.
use Rattle.std.specs.Prelude.{ℕ, List, Option}
use Rattle.sr_ast.specs.Terms.{Term}

-- Actions in order: none; a SET, an INSERT, an IF without and with an ELSE, each with the actions behind it.
pub data Chain : Type 0 where
  done : Chain
  set : Option (List ℕ) → List ℕ → Term → Chain → Chain
  insert : List ℕ → List (List ℕ) → List Term → Chain → Chain
  when : Term → Chain → Chain → Chain
  choose : Term → Chain → Chain → Chain → Chain
