use Rattle.std.proofs.Common.{◌≡◌, ◌++◌, length}
use Rattle.sr_resolve.specs.Named.{old_row}
use Rattle.sr_resolve.proofs.updates.old_row.Given as goal

abbrev pub invariant-columns : goal.invariant-columns
invariant-columns l = l.values.items ++ old_row l.updates l.left ≡ old_row l.updates l.columns

abbrev pub decreases-columns : goal.decreases-columns
decreases-columns l = length l.left
