use Rattle.std.proofs.Common.{◌≡◌, length}
use Rattle.sr_world_steps.specs.Inner.Leading.{has}
use Rattle.sr_world_steps.proofs.chains.has.Given as goal

-- it is among all where it is among those that are left
abbrev pub invariant-places : goal.invariant-places
invariant-places l = has l.left l.place ≡ has l.places l.place

abbrev pub decreases-places : goal.decreases-places
decreases-places l = length l.left
