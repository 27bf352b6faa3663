use Rattle.std.proofs.Common.{◌≡◌, ◌++◌, map, length}
use Rattle.sr_ast.specs.declared.query.Join.{Join}
use Rattle.sr_catalog_schema.specs.Firsts.{first_among}
use Rattle.sr_query.specs.Sources.{conditions_of, where_of}
use Rattle.sr_exec_where.specs.Checks.{unknown_in}
use Rattle.sr_query.proofs.unknown.unknown_in_conditions.Given as goal

abbrev pub invariant-joins : goal.invariant-joins
invariant-joins l = first_among (unknown_in l.scope) (map (λ (j : Join). j.condition) l.left ++ where_of l.select.condition)
    ≡ first_among (unknown_in l.scope) (conditions_of l.select)

abbrev pub decreases-joins : goal.decreases-joins
decreases-joins l = length l.left
