use Rattle.std.proofs.Common.{length}
use Rattle.dbremote_demo_draws.proofs.KeySets.{Gathers}
use Rattle.dbremote_demo_draws.proofs.keys.set_of.Given as goal

abbrev pub invariant-keys : goal.invariant-keys
invariant-keys l = Gathers l.keys l.set l.left

abbrev pub decreases-keys : goal.decreases-keys
decreases-keys l = length l.left
