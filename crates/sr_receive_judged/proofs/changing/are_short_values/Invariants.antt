use Rattle.std.proofs.Common.{◌↔◌, length}
use Rattle.std.specs.List.{AllByRecursion}
use Rattle.sr_base.specs.Values.{IsShort}
use Rattle.sr_receive_judged.proofs.changing.are_short_values.Given as goal

abbrev pub invariant-values : goal.invariant-values
invariant-values l = AllByRecursion IsShort l.left ↔ AllByRecursion IsShort l.values

abbrev pub decreases-values : goal.decreases-values
decreases-values l = length l.left
