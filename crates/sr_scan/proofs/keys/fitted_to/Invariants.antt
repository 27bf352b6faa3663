use Rattle.std.proofs.Common.{◌≡◌, Some, length}
use Rattle.sr_database_history.specs.Fitting.{fitted_in}
use Rattle.sr_scan.proofs.keys.fitted_to.Given as goal

abbrev pub invariant-columns : goal.invariant-columns
invariant-columns l = fitted_in l.left (Some l.column) ≡ fitted_in l.columns (Some l.column)

abbrev pub decreases-columns : goal.decreases-columns
decreases-columns l = length l.left
