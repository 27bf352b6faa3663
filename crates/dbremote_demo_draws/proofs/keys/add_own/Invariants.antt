use Rattle.std.proofs.Common.{◌≡◌, ◌++◌, length}
use Rattle.dbremote_demo_draws.specs.Counts.{own_keys}
use Rattle.dbremote_demo_draws.proofs.keys.add_own.Given as goal

abbrev pub invariant-entries : goal.invariant-entries
invariant-entries l = l.keys.items ++ own_keys l.table l.left ≡ l.fn.keys.items ++ own_keys l.table l.entries

abbrev pub decreases-entries : goal.decreases-entries
decreases-entries l = length l.left
