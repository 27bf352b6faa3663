use Rattle.std.proofs.Common.{◌≡◌, ◌++◌, map, length}
use Rattle.sr_query.specs.Inner.Orders.{placed_in}
use Rattle.sr_query.proofs.placing.places_of.Given as goal

abbrev pub invariant-order : goal.invariant-order
invariant-order l = l.found.items ++ map (placed_in l.scope) l.left ≡ map (placed_in l.scope) l.order

abbrev pub decreases-order : goal.decreases-order
decreases-order l = length l.left
