use Rattle.std.proofs.Common.{◌≡◌, ◌+◌, length}
use Rattle.std.specs.List.{flat_map}
use Rattle.sr_base.specs.Values.{value_spelling}
use Rattle.sr_snapshot.proofs.measuring.row_length.Given as goal

abbrev pub invariant-values : goal.invariant-values
invariant-values l = l.length + length (flat_map value_spelling l.left) ≡ 4 + length (flat_map value_spelling l.row)

abbrev pub decreases-values : goal.decreases-values
decreases-values l = length l.left
