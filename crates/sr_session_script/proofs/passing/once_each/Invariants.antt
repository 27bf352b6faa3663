use Rattle.std.proofs.Common.{◌≡◌, ◌++◌, [], length}
use Rattle.sr_session_script.specs.Works.{once_behind}
use Rattle.sr_session_script.proofs.passing.once_each.Given as goal

-- those that are kept, and the names that are left and not among them
abbrev pub invariant-names : goal.invariant-names
invariant-names l = l.kept.items ++ once_behind l.kept.items l.left ≡ once_behind [] l.fn.names

abbrev pub decreases-names : goal.decreases-names
decreases-names l = length l.left
