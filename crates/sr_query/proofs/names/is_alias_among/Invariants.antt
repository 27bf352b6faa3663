use Rattle.std.proofs.Common.{◌≡◌, map, length}
use Rattle.sr_ast.specs.declared.query.Join.{Join}
use Rattle.sr_query.specs.Sources.{alias_of}
use Rattle.sr_exec_where.specs.Checks.{is_among}
use Rattle.sr_query.proofs.names.is_alias_among.Given as goal

abbrev pub invariant-joins : goal.invariant-joins
invariant-joins l = is_among l.alias (map alias_of (map (λ (j : Join). j.source) l.left))
    ≡ is_among l.alias (map alias_of (map (λ (j : Join). j.source) l.joins))

abbrev pub decreases-joins : goal.decreases-joins
decreases-joins l = length l.left
