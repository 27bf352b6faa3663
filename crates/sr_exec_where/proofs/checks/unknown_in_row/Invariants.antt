use Rattle.std.proofs.Common.{◌≡◌, length}
use Rattle.sr_exec_where.specs.Checks.{unknown_in}
use Rattle.sr_catalog_schema.specs.Firsts.{first_among}
use Rattle.sr_exec_where.proofs.checks.unknown_in_row.Given as goal

abbrev pub invariant-values : goal.invariant-values
invariant-values l = first_among (unknown_in l.scope) l.left ≡ first_among (unknown_in l.scope) l.row

abbrev pub decreases-values : goal.decreases-values
decreases-values l = length l.left
