use Rattle.std.proofs.Common.{length}
use Rattle.sr_publish.proofs.Sets.{Gathers}
use Rattle.sr_publish.proofs.subscribed.set_of.Given as goal

abbrev pub invariant-values : goal.invariant-values
invariant-values l = Gathers l.values l.set l.rest

abbrev pub decreases-values : goal.decreases-values
decreases-values l = length l.rest
