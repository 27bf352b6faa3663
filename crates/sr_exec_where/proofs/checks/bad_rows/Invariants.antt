use Rattle.std.proofs.Common.{◌≡◌, length}
use Rattle.sr_exec_where.specs.Checks.{bad_row}
use Rattle.sr_catalog_schema.specs.Firsts.{first_among}
use Rattle.sr_exec_where.proofs.checks.bad_rows.Given as goal

abbrev pub invariant-rows : goal.invariant-rows
invariant-rows l = first_among (bad_row l.table l.names) l.left ≡ first_among (bad_row l.table l.names) l.rows

abbrev pub decreases-rows : goal.decreases-rows
decreases-rows l = length l.left
