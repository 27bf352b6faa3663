use Rattle.std.proofs.Common.{◌≡◌, ◌++◌, length}
use Rattle.sr_exec_where.specs.Keys.{key_of}
use Rattle.sr_scan.specs.Ops.{present_columns}
use Rattle.sr_scan.proofs.columns.present_at.Given as goal

abbrev pub invariant-columns : goal.invariant-columns
invariant-columns l = l.found.items ++ present_columns l.columns_left (key_of l.places_left l.row) ≡ present_columns l.columns (key_of l.places l.row)

abbrev pub decreases-columns : goal.decreases-columns
decreases-columns l = length l.columns_left
