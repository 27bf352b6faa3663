use Rattle.std.proofs.Common.{◌+◌, ◌-◌, length}
use Rattle.sr_world_steps.specs.Inner.Leading.{missing}
use Rattle.sr_world_steps.proofs.Chained.{Leading}
use Rattle.sr_world_steps.proofs.chains.leads.Given as goal

abbrev pub invariant-places : goal.invariant-places
invariant-places l = Leading l.messages l.sender l.receiver l.fn.from l.reached.items l.next

abbrev pub decreases-places : goal.decreases-places
decreases-places l = missing l.messages l.reached.items + (length l.reached.items - l.next)
