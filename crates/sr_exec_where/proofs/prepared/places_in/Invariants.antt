use Rattle.std.proofs.Common.{◌≡◌, ◌++◌, length}
use Rattle.sr_exec_where.specs.Inner.Preparing.{places_in}
use Rattle.sr_exec_where.proofs.prepared.places_in.Given as goal

abbrev pub invariant-columns : goal.invariant-columns
invariant-columns l = l.places.items ++ places_in l.names l.left ≡ places_in l.names l.columns

abbrev pub decreases-columns : goal.decreases-columns
decreases-columns l = length l.left
