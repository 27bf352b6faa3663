use Rattle.std.proofs.Common.{length}
use Rattle.sr_world_steps.proofs.Following.{Follows}
use Rattle.sr_world_steps.proofs.standing.standing_of.Given as goal

abbrev pub invariant-entries : goal.invariant-entries
invariant-entries l = Follows l.publisher l.log l.left l.catalog l.rows

abbrev pub decreases-entries : goal.decreases-entries
decreases-entries l = length l.left
