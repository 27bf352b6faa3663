use Rattle.std.proofs.Common.{◌≡◌, ◌++◌, map, length}
use Rattle.sr_ast.specs.declared.query.Join.{Join}
use Rattle.sr_eval.specs.Inner.Resolving.{resolution_of}
use Rattle.sr_query.specs.Inner.Preparing.{resolved_in}
use Rattle.sr_query.specs.Sources.{conditions_of, where_of}
use Rattle.sr_query.proofs.prepared.conditions_of.Given as goal

abbrev pub invariant-joins : goal.invariant-joins
invariant-joins l = map resolution_of l.made.items ++ map (resolved_in l.scope) (map (λ (j : Join). j.condition) l.left ++ where_of l.select.condition)
    ≡ map (resolved_in l.scope) (conditions_of l.select)

abbrev pub decreases-joins : goal.decreases-joins
decreases-joins l = length l.left
