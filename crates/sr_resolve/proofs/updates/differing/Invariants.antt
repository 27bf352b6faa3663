use Rattle.std.proofs.Common.{◌≡◌, ◌++◌, length}
use Rattle.sr_resolve.specs.Named.{differing}
use Rattle.sr_resolve.proofs.updates.differing.Given as goal

abbrev pub invariant-columns : goal.invariant-columns
invariant-columns l = l.names.items ++ differing l.updates l.columns_left l.left ≡ differing l.updates l.columns l.row

abbrev pub decreases-columns : goal.decreases-columns
decreases-columns l = length l.columns_left
