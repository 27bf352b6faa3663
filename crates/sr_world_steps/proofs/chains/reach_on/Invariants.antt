use Rattle.std.proofs.Common.{length}
use Rattle.sr_world_steps.specs.Inner.Leading.{ReachesOn}
use Rattle.sr_world_steps.proofs.Chained.{AreLeft}
use Rattle.sr_world_steps.proofs.chains.reach_on.Given as goal

abbrev pub invariant-messages : goal.invariant-messages
invariant-messages l = record {
  reaches : ReachesOn l.messages l.sender l.receiver l.place l.fn.reached.items l.reached.items l.left;
  are : AreLeft l.messages l.left;
}

abbrev pub decreases-messages : goal.decreases-messages
decreases-messages l = length l.left
