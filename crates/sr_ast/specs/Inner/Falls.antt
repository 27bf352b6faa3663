-- An operand is smaller than the expression that it stands in.
use Rattle.std.specs.Prelude.{◌≤◌, max}
use Rattle.std.proofs.Common.{arith}
use Rattle.sr_ast.specs.Inner.Terms.{term_size}
use Rattle.sr_ast.specs.Exprs.{term_of}
use Rattle.sr_ast.specs.declared.expr.Operand.TheDeep.{deep-Expr}
use Rattle.sr_ast.specs.declared.expr.Expr.{Expr}
use Rattle.sr_ast.specs.declared.expr.Expr.TheVariants.{Literal, Column, Unary, Binary}

pub operand_falls : (e : Expr) → max (deep-Expr e) 0 ≤ term_size (term_of e)
operand_falls (Literal v) = omega arith
operand_falls (Column t n) = omega arith
operand_falls (Unary op a) = omega arith
operand_falls (Binary op a b) = omega arith
