use Rattle.std.proofs.Common.{◌≡◌, length}
use Rattle.sr_exec_where.specs.Checks.{unknown_in}
use Rattle.sr_catalog_schema.specs.Firsts.{first_among}
use Rattle.sr_exec_where.proofs.checks.unknown_in_rows.Given as goal

abbrev pub invariant-rows : goal.invariant-rows
invariant-rows l = first_among (first_among (unknown_in l.scope)) l.left ≡ first_among (first_among (unknown_in l.scope)) l.rows

abbrev pub decreases-rows : goal.decreases-rows
decreases-rows l = length l.left
