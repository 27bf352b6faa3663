use Rattle.std.proofs.Common.{◌≡◌, length}
use Rattle.sr_resolve.specs.Named.{sets_null}
use Rattle.sr_resolve.proofs.updates.sets_null.Given as goal

abbrev pub invariant-columns : goal.invariant-columns
invariant-columns l = sets_null l.columns_left l.left ≡ sets_null l.columns l.news

abbrev pub decreases-columns : goal.decreases-columns
decreases-columns l = length l.columns_left
