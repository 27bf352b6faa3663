use Rattle.std.proofs.Common.{◌≡◌, ◌+◌, length}
use Rattle.sr_base.specs.Values.{value_spelling}
use Rattle.sr_resolve.proofs.Measured.{items_length}
use Rattle.sr_resolve.proofs.measuring.after_values.Given as goal

abbrev pub invariant-values : goal.invariant-values
invariant-values l = l.room + 4 + items_length value_spelling l.values ≡ l.fn.room + items_length value_spelling l.left

abbrev pub decreases-values : goal.decreases-values
decreases-values l = length l.left
