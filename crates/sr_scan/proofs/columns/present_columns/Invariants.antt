use Rattle.std.proofs.Common.{◌≡◌, ◌++◌, length}
use Rattle.sr_scan.specs.Ops.{present_columns}
use Rattle.sr_scan.proofs.columns.present_columns.Given as goal

abbrev pub invariant-columns : goal.invariant-columns
invariant-columns l = l.found.items ++ present_columns l.columns_left l.values_left ≡ present_columns l.columns l.row

abbrev pub decreases-columns : goal.decreases-columns
decreases-columns l = length l.columns_left
