use Rattle.std.proofs.Common.{◌≡◌, ◌∷◌, ◌++◌, length}
use Rattle.sr_base_dates.specs.Literals.{quotes_doubled}
use Rattle.sr_ast_print.proofs.print_expr.quoted_bytes.Given as goal

abbrev pub invariant-bytes : goal.invariant-bytes
invariant-bytes l = l.bytes.items ++ quotes_doubled l.rest ≡ 39 ∷ quotes_doubled l.text

abbrev pub decreases-bytes : goal.decreases-bytes
decreases-bytes l = length l.rest
