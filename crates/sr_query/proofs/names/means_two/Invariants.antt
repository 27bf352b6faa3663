use Rattle.std.proofs.Common.{◌≡◌, length}
use Rattle.sr_query.specs.Checks.{means_two}
use Rattle.sr_query.proofs.names.means_two.Given as goal

abbrev pub invariant-columns : goal.invariant-columns
invariant-columns l = means_two l.left l.table l.name ≡ means_two l.columns l.table l.name

abbrev pub decreases-columns : goal.decreases-columns
decreases-columns l = length l.left
