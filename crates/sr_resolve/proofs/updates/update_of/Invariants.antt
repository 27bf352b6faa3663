use Rattle.std.proofs.Common.{◌≡◌, length}
use Rattle.sr_resolve.specs.Named.{update_of}
use Rattle.sr_resolve.proofs.updates.update_of.Given as goal

abbrev pub invariant-updates : goal.invariant-updates
invariant-updates l = update_of l.left l.column ≡ update_of l.updates l.column

abbrev pub decreases-updates : goal.decreases-updates
decreases-updates l = length l.left
