use Rattle.std.proofs.Common.{◌≡◌, map, length}
use Rattle.sr_ast.specs.declared.query.Join.{Join}
use Rattle.sr_query.specs.Sources.{alias_of}
use Rattle.sr_query.specs.Checks.{are_distinct}
use Rattle.sr_query.proofs.names.are_joins_distinct.Given as goal

abbrev pub invariant-joins : goal.invariant-joins
invariant-joins l = are_distinct (map alias_of (map (λ (j : Join). j.source) l.left)) ≡ are_distinct (map alias_of (map (λ (j : Join). j.source) l.joins))

abbrev pub decreases-joins : goal.decreases-joins
decreases-joins l = length l.left
