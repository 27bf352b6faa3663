-- Expressions as trees, without where they lie in memory.
use Rattle.std.specs.Prelude.{ℕ, ◌+◌, max, List, Option}
use Rattle.sr_base.specs.declared.value.Value.{Value as Cell}
use Rattle.sr_ast.specs.declared.operator.Unary.{Unary}
use Rattle.sr_ast.specs.declared.operator.Binary.{Binary}

-- An expression: a literal, a column or a variable, or an operator and its operands.
pub data Term : Type 0 where
  literal : Cell → Term
  column : Option (List ℕ) → List ℕ → Term
  unary : Unary → Term → Term
  binary : Binary → Term → Term → Term

-- how deep an expression may be, how many parentheses may be open in it, and how many IFs of a trigger may stand in one another
abbrev pub deepest : ℕ
deepest = 200

-- the depth of an expression: 1 for a literal or a column, and 1 more than its operands for an operator
abbrev pub depth : Term → ℕ
depth (literal v) = 1
depth (column t n) = 1
depth (unary op a) = depth a + 1
depth (binary op a b) = max (depth a) (depth b) + 1
