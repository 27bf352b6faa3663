use Rattle.std.proofs.Common.{◌≡◌, ◌++◌, map, length}
use Rattle.sr_ast.specs.declared.query.Join.{Join}
use Rattle.sr_query.specs.Inner.Equations.{equation_of, equations}
use Rattle.sr_query.specs.Sources.{conditions_of, where_of}
use Rattle.sr_query.proofs.equations.equations_of.Given as goal

abbrev pub invariant-joins : goal.invariant-joins
invariant-joins l = map equation_of l.made.items ++ equations l.scope (map (λ (j : Join). j.condition) l.left ++ where_of l.select.condition)
    ≡ equations l.scope (conditions_of l.select)

abbrev pub decreases-joins : goal.decreases-joins
decreases-joins l = length l.left
