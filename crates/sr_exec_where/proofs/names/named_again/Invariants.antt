use Rattle.std.proofs.Common.{◌≡◌, [], length}
use Rattle.sr_exec_where.specs.Checks.{named_again}
use Rattle.sr_exec_where.proofs.names.named_again.Given as goal

abbrev pub invariant-names : goal.invariant-names
invariant-names l = named_again l.before.items l.left ≡ named_again [] l.names

abbrev pub decreases-names : goal.decreases-names
decreases-names l = length l.left
