use Rattle.std.proofs.Common.{◌≡◌, length}
use Rattle.sr_exec_where.specs.Keys.{key_of}
use Rattle.sr_exec_dml.proofs.applying.is_same_key.Given as goal

abbrev pub invariant-places : goal.invariant-places
invariant-places l = key_of l.left l.row ≡ key_of l.left l.other → key_of l.places l.row ≡ key_of l.places l.other

abbrev pub decreases-places : goal.decreases-places
decreases-places l = length l.left
