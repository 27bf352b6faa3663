use Rattle.std.proofs.Common.{◌≡◌, ◌++◌, length}
use Rattle.sr_query.proofs.joining.add_columns.Given as goal

abbrev pub invariant-columns : goal.invariant-columns
invariant-columns l = l.scope.items ++ l.left ≡ l.fn.scope.items ++ l.columns

abbrev pub decreases-columns : goal.decreases-columns
decreases-columns l = length l.left
