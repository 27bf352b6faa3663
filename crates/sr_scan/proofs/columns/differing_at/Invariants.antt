use Rattle.std.proofs.Common.{◌≡◌, ◌++◌, length}
use Rattle.sr_exec_where.specs.Keys.{key_of}
use Rattle.sr_scan.specs.Ops.{differing}
use Rattle.sr_scan.proofs.columns.differing_at.Given as goal

abbrev pub invariant-columns : goal.invariant-columns
invariant-columns l = l.found.items ++ differing l.columns_left (key_of l.places_left l.before) (key_of l.places_left l.after)
    ≡ differing l.columns (key_of l.places l.before) (key_of l.places l.after)

abbrev pub decreases-columns : goal.decreases-columns
decreases-columns l = length l.columns_left
