use Rattle.std.proofs.Common.{length}
use Rattle.sr_world_steps.proofs.Chained.{AreLeft, StillLeft}
use Rattle.sr_world_steps.proofs.chains.covered_to.Given as goal

abbrev pub invariant-messages : goal.invariant-messages
invariant-messages l = record {
  still : StillLeft l.messages l.message l.place l.left;
  are : AreLeft l.messages l.left;
}

abbrev pub decreases-messages : goal.decreases-messages
decreases-messages l = length l.left
