use Rattle.std.proofs.Common.{length}
use Rattle.sr_world_steps.proofs.Chained.{AreLeft}
use Rattle.sr_world_steps.proofs.Ahead.{StillPast}
use Rattle.sr_world_steps.proofs.past.goes_past.Given as goal

abbrev pub invariant-messages : goal.invariant-messages
invariant-messages l = record {
  still : StillPast l.messages l.sender l.receiver l.taken l.left;
  are : AreLeft l.messages l.left;
}

abbrev pub decreases-messages : goal.decreases-messages
decreases-messages l = length l.left
