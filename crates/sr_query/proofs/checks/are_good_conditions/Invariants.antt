use Rattle.std.proofs.Common.{◌≡◌, ◌++◌, map, length}
use Rattle.sr_ast.specs.declared.query.Join.{Join}
use Rattle.sr_query.specs.Sources.{conditions_of, where_of}
use Rattle.sr_query.specs.Checks.{all_pass, is_good_condition}
use Rattle.sr_query.proofs.checks.are_good_conditions.Given as goal

abbrev pub invariant-joins : goal.invariant-joins
invariant-joins l = all_pass (is_good_condition l.scope) (map (λ (j : Join). j.condition) l.left ++ where_of l.select.condition)
    ≡ all_pass (is_good_condition l.scope) (conditions_of l.select)

abbrev pub decreases-joins : goal.decreases-joins
decreases-joins l = length l.left
