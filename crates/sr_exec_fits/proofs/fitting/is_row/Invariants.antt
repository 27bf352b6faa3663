use Rattle.std.proofs.Common.{◌≡◌, length}
use Rattle.sr_exec_fits.specs.Rows.{is_row}
use Rattle.sr_exec_fits.proofs.fitting.is_row.Given as goal

abbrev pub invariant-columns : goal.invariant-columns
invariant-columns l = is_row l.columns l.row ≡ is_row l.columns_left l.values_left

abbrev pub decreases-columns : goal.decreases-columns
decreases-columns l = length l.columns_left
