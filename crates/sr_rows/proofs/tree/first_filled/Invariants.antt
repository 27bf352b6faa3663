-- the first filled entry is among those that are left
use Rattle.std.proofs.Common.{◌≡◌}
use Rattle.sr_rows.specs.Inner.Gathered.{first_filled}
use Rattle.sr_rows.proofs.tree.first_filled.Given as goal

abbrev pub invariant-loop-key : goal.invariant-loop-key
invariant-loop-key l = first_filled l.key-iterator ≡ first_filled l.fn.places
