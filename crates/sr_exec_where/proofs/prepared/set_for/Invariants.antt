use Rattle.std.proofs.Common.{◌≡◌, length}
use Rattle.sr_exec_where.specs.Naming.{set_for}
use Rattle.sr_exec_where.proofs.prepared.set_for.Given as goal

abbrev pub invariant-sets : goal.invariant-sets
invariant-sets l = set_for l.left l.column ≡ set_for l.sets l.column

abbrev pub decreases-sets : goal.decreases-sets
decreases-sets l = length l.left
