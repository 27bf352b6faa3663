use Rattle.std.proofs.Common.{◌≡◌, length}
use Rattle.sr_exec_where.specs.Checks.{bad_row}
use Rattle.sr_exec_where.proofs.checks.bad_row.Given as goal

abbrev pub invariant-values : goal.invariant-values
invariant-values l = bad_row l.table l.names_left l.left ≡ bad_row l.table l.names l.row

abbrev pub decreases-values : goal.decreases-values
decreases-values l = length l.left
