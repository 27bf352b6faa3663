use Rattle.std.proofs.Common.{◌≡◌, ◌++◌, length}
use Rattle.dbremote_demo_draws.specs.Counts.{change_keys}
use Rattle.dbremote_demo_draws.proofs.keys.add_changes.Given as goal

abbrev pub invariant-changes : goal.invariant-changes
invariant-changes l = l.keys.items ++ change_keys l.table l.left ≡ l.fn.keys.items ++ change_keys l.table l.changes

abbrev pub decreases-changes : goal.decreases-changes
decreases-changes l = length l.left
