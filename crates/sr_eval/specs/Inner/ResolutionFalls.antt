-- An operand is smaller than the resolved expression that it stands in.
use Rattle.std.specs.Prelude.{◌≤◌, max}
use Rattle.std.proofs.Common.{arith}
use Rattle.sr_eval.specs.Inner.Resolutions.{resolution_size}
use Rattle.sr_eval.specs.Inner.Resolving.{operation_of}
use Rattle.sr_eval.specs.declared.resolved.Boxed.TheDeep.{deep-Operation}
use Rattle.sr_eval.specs.declared.resolved.Operation.{Operation}
use Rattle.sr_eval.specs.declared.resolved.Operation.TheVariants.{Unary, Binary}
use Rattle.sr_eval.specs.declared.resolved.Resolved.TheVariants.{Literal, Place, Operated}

pub operands_fall : (o : Operation) → max (deep-Operation o) 0 ≤ resolution_size (operation_of o)
operands_fall (Unary op (Literal v)) = omega arith
operands_fall (Unary op (Place n)) = omega arith
operands_fall (Unary op (Operated r)) = omega arith
operands_fall (Binary op (Literal v) (Literal w)) = omega arith
operands_fall (Binary op (Literal v) (Place m)) = omega arith
operands_fall (Binary op (Literal v) (Operated s)) = omega arith
operands_fall (Binary op (Place n) (Literal w)) = omega arith
operands_fall (Binary op (Place n) (Place m)) = omega arith
operands_fall (Binary op (Place n) (Operated s)) = omega arith
operands_fall (Binary op (Operated r) (Literal w)) = omega arith
operands_fall (Binary op (Operated r) (Place m)) = omega arith
operands_fall (Binary op (Operated r) (Operated s)) = omega arith
