use Rattle.std.proofs.Common.{◌≡◌, length}
use Rattle.sr_resolve.specs.Named.{has_null}
use Rattle.sr_resolve.proofs.named.has_null.Given as goal

abbrev pub invariant-columns : goal.invariant-columns
invariant-columns l = has_null l.columns_left l.left ≡ has_null l.columns l.row

abbrev pub decreases-columns : goal.decreases-columns
decreases-columns l = length l.columns_left
