use Rattle.std.proofs.Common.{◌≡◌, map, length}
use Rattle.sr_eval.specs.Inner.Resolving.{resolution_of}
use Rattle.sr_query.specs.Inner.Preparing.{meets_at}
use Rattle.sr_query.proofs.combining.meets_at.Given as goal

abbrev pub invariant-conditions : goal.invariant-conditions
invariant-conditions g l = meets_at (g.V.Values.values l.values) (map resolution_of l.left) ≡ meets_at (g.V.Values.values l.values) (map resolution_of l.conditions)

abbrev pub decreases-conditions : goal.decreases-conditions
decreases-conditions g l = length l.left
