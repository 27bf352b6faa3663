use Rattle.std.proofs.Common.{◌≡◌, ◌++◌, length}
use Rattle.sr_exec_where.specs.Keys.{key_of}
use Rattle.sr_exec_where.proofs.keys.key_of_several.Given as goal

abbrev pub invariant-places : goal.invariant-places
invariant-places l = l.values.items ++ key_of l.left l.row ≡ key_of l.places l.row

abbrev pub decreases-places : goal.decreases-places
decreases-places l = length l.left
