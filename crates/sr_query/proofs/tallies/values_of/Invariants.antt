use Rattle.std.proofs.Common.{◌≡◌, [], map, length}
use Rattle.sr_exec_dml.specs.Inner.Edits.{prefixed}
use Rattle.sr_query.specs.Inner.Tallies.{each_over, told_of}
use Rattle.sr_query.proofs.tallies.values_of.Given as goal

abbrev pub invariant-tallies : goal.invariant-tallies
invariant-tallies l = prefixed l.values.items (each_over (map told_of l.left) []) ≡ each_over (map told_of l.tallies) []

abbrev pub decreases-tallies : goal.decreases-tallies
decreases-tallies l = length l.left
