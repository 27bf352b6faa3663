use Rattle.std.proofs.Common.{◌≡◌, length, Some}
use Rattle.sr_database_history.specs.Fitting.{fitted_in}
use Rattle.sr_resolve.proofs.named.fitted_in.Given as goal

abbrev pub invariant-values : goal.invariant-values
invariant-values l = fitted_in l.left (Some l.column) ≡ fitted_in l.values (Some l.column)

abbrev pub decreases-values : goal.decreases-values
decreases-values l = length l.left
