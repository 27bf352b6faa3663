use Rattle.std.proofs.Common.{◌≡◌, ◌++◌, length}
use Rattle.sr_query.proofs.items.add_values.Given as goal

abbrev pub invariant-values : goal.invariant-values
invariant-values l = l.values.items ++ l.left ≡ l.fn.values.items ++ l.more

abbrev pub decreases-values : goal.decreases-values
decreases-values l = length l.left
