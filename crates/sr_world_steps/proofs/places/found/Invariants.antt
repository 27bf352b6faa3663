use Rattle.std.proofs.Common.{length}
use Rattle.sr_world_steps.proofs.Found.{Passed}
use Rattle.sr_world_steps.proofs.places.found.Given as goal

abbrev pub invariant-histories : goal.invariant-histories
invariant-histories l = Passed l.name l.histories l.left l.place

abbrev pub decreases-histories : goal.decreases-histories
decreases-histories l = length l.left
