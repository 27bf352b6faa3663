use Rattle.std.proofs.Common.{length}
use Rattle.sr_parse.proofs.Normals.{Gathers}
use Rattle.sr_parse.proofs.normal.set_of.Given as goal

abbrev pub invariant-names : goal.invariant-names
invariant-names l = Gathers l.names l.set l.rest

abbrev pub decreases-names : goal.decreases-names
decreases-names l = length l.rest
