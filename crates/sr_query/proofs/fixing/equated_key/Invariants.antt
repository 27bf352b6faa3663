use Rattle.std.proofs.Common.{◌≡◌, map, length}
use Rattle.sr_eval.specs.Inner.Bounds.{values_of}
use Rattle.sr_exec_where.specs.Inner.Fixing.{after_values}
use Rattle.sr_query.specs.Inner.Equations.{equation_of}
use Rattle.sr_query.specs.Inner.Lookups.{equated_key}
use Rattle.sr_query.proofs.fixing.equated_key.Given as goal

abbrev pub invariant-places : goal.invariant-places
invariant-places l = after_values l.values.items (equated_key (values_of l.before) l.joined.scope (map equation_of l.equations) l.left)
    ≡ equated_key (values_of l.before) l.joined.scope (map equation_of l.equations) l.joined.table.now.key

abbrev pub decreases-places : goal.decreases-places
decreases-places l = length l.left
