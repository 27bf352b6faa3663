use Rattle.std.proofs.Common.{◌≡◌, ◌++◌, zip, length}
use Rattle.sr_scan.proofs.keys.named_values.Given as goal

abbrev pub invariant-names : goal.invariant-names
invariant-names l = l.columns.items ++ zip l.names_left l.values_left ≡ zip l.names l.values

abbrev pub decreases-names : goal.decreases-names
decreases-names l = length l.names_left
