use Rattle.std.proofs.Common.{◌≡◌, length}
use Rattle.sr_ast.specs.Exprs.{term_of}
use Rattle.sr_exec_where.specs.Inner.Fixing.{fixed_key, after_values}
use Rattle.sr_exec_where.proofs.fixing.fixed_columns.Given as goal

abbrev pub invariant-places : goal.invariant-places
invariant-places l = after_values l.values.items (fixed_key l.table (term_of l.condition) l.left) ≡ fixed_key l.table (term_of l.condition) l.places

abbrev pub decreases-places : goal.decreases-places
decreases-places l = length l.left
