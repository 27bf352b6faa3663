use Rattle.std.proofs.Common.{◌≡◌, ◌+◌, length}
use Rattle.std.specs.List.{flat_map}
use Rattle.sr_base.specs.Fields.{bytes_spelling}
use Rattle.sr_snapshot.proofs.measuring.texts_length.Given as goal

abbrev pub invariant-texts : goal.invariant-texts
invariant-texts l = l.length + length (flat_map bytes_spelling l.left) ≡ length (flat_map bytes_spelling l.texts)

abbrev pub decreases-texts : goal.decreases-texts
decreases-texts l = length l.left
