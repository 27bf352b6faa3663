use Rattle.std.proofs.Common.{length}
use Rattle.std.specs.BTreeMap as tree
use Rattle.sr_base.specs.Order.{name_cmp}
use Rattle.sr_database_fold.proofs.Named.{NamedFrom}
use Rattle.sr_database_fold.proofs.naming.by_name.Given as goal

abbrev pub invariant-named : goal.invariant-named
invariant-named l = NamedFrom l.named l.left (tree.get name_cmp l.values)

abbrev pub decreases-named : goal.decreases-named
decreases-named l = length l.left
