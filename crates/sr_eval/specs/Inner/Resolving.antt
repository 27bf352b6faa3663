-- Resolved expressions of the program, as resolutions.
use Rattle.sr_eval.specs.Inner.Resolutions.{Resolution}
use Rattle.sr_eval.specs.Inner.Resolutions.Resolution.{literal, place, unary, binary}
use Rattle.sr_eval.specs.declared.resolved.Resolved.{Resolved}
use Rattle.sr_eval.specs.declared.resolved.Resolved.TheVariants.{Literal, Place, Operated}
use Rattle.sr_eval.specs.declared.resolved.Operation.{Operation}
use Rattle.sr_eval.specs.declared.resolved.Operation.TheVariants.{Unary, Binary}

abbrev pub resolution_of : Resolved → Resolution
resolution_of (Literal v) = literal v
resolution_of (Place n) = place n
resolution_of (Operated r) = r

-- an operator with its operands
abbrev pub operation_of : Operation → Resolution
operation_of (Unary op a) = unary op (resolution_of a)
operation_of (Binary op a b) = binary op (resolution_of a) (resolution_of b)
