-- the places that are left, put into the tree, make it the map of all
use Rattle.std.proofs.Common.{◌≡◌, length}
use Rattle.sr_rows.proofs.Searching.{with_entries}
use Rattle.sr_rows.proofs.rising.Rising.tree.Given as goal

abbrev pub invariant-places : goal.invariant-places
invariant-places l = with_entries l.rest l.tree ≡ l.fn.self

abbrev pub decreases-places : goal.decreases-places
decreases-places l = length l.rest
