-- the rows of the places that are left are those at the start: what was passed held none
use Rattle.std.proofs.Common.{◌≡◌, length}
use Rattle.sr_rows.specs.Inner.Gathered.{filled_rows}
use Rattle.sr_rows.proofs.walk.next_grown.Given as goal

abbrev pub invariant-places : goal.invariant-places
invariant-places l = filled_rows l.places ≡ filled_rows l.fn.places

abbrev pub decreases-places : goal.decreases-places
decreases-places l = length l.places
