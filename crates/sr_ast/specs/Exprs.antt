-- Expressions of the program, as terms.
use Rattle.sr_ast.specs.Terms.{Term}
use Rattle.sr_ast.specs.Terms.Term.{literal, column, unary, binary}
use Rattle.sr_ast.specs.declared.expr.Expr.{Expr}
use Rattle.sr_ast.specs.declared.expr.Expr.TheVariants.{Literal, Column, Unary, Binary}

-- the term that an expression is
abbrev pub term_of : Expr → Term
term_of (Literal v) = literal v
term_of (Column t n) = column t n
term_of (Unary op a) = unary op a
term_of (Binary op a b) = binary op a b
