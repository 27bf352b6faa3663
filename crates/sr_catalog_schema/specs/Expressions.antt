-- Questions about expressions: what stands in them.
use Rattle.std.specs.Prelude.{ℕ, Bool, true, false, ◌||◌, List, [], ◌∷◌, ◌++◌, Option, Some, None}
use Rattle.sr_ast.specs.Classes.{is_truth}
use Rattle.sr_ast.specs.Terms.{Term}
use Rattle.sr_ast.specs.Terms.Term.{literal, column, unary, binary}
use Rattle.sr_ast.specs.declared.classes.Class.{Class}
use Rattle.sr_ast.specs.declared.classes.Class.TheVariants.{Number, Text, Date, Truth, Any}
use Rattle.sr_ast.specs.declared.operator.Unary.{Unary}
use Rattle.sr_ast.specs.declared.operator.Unary.TheVariants.{Not, IsNull, IsNotNull, Negate}
use Rattle.sr_ast.specs.declared.operator.Binary.{Binary}
use Rattle.sr_ast.specs.declared.operator.Binary.TheVariants.{Or, And, Equal, Unequal, Less, AtMost, Greater, AtLeast, Add, Subtract, Multiply}

-- an operator and its operands
abbrev pub is_operator : Term → Bool
is_operator (literal v) = false
is_operator (column t n) = false
is_operator (unary op a) = true
is_operator (binary op a b) = true

-- the names in an expression, each with what stands before its dot, in the order of the text
abbrev pub refs : Term → List (Option (List ℕ) × List ℕ)
refs (literal v) = []
refs (column alias n) = (alias, n) ∷ []
refs (unary op a) = refs a
refs (binary op a b) = refs a ++ refs b
