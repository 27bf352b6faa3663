use Rattle.std.proofs.Common.{◌≡◌, ◌++◌, map, length}
use Rattle.sr_query.specs.Inner.Tallies.{started, told_of}
use Rattle.sr_query.proofs.tallies.tallies_of.Given as goal

abbrev pub invariant-items : goal.invariant-items
invariant-items l = map told_of l.tallies.items ++ map (started l.scope) l.left ≡ map (started l.scope) l.items

abbrev pub decreases-items : goal.decreases-items
decreases-items l = length l.left
