use Rattle.std.proofs.Common.{◌≡◌, ◌++◌, length}
use Rattle.sr_exec_where.specs.Keys.{key_of}
use Rattle.sr_scan.specs.Ops.{outside_key}
use Rattle.sr_scan.proofs.columns.outside_key_at.Given as goal

abbrev pub invariant-columns : goal.invariant-columns
invariant-columns l = l.found.items ++ outside_key l.key l.columns_left (key_of l.places_left l.before) (key_of l.places_left l.after)
    ≡ outside_key l.key l.columns (key_of l.places l.before) (key_of l.places l.after)

abbrev pub decreases-columns : goal.decreases-columns
decreases-columns l = length l.columns_left
