use Rattle.std.proofs.Common.{length}
use Rattle.sr_query.proofs.fixing.+equated.Given as goal

abbrev pub decreases-equated : goal.decreases-equated
decreases-equated l = length l.equations.now
