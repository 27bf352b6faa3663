use Rattle.std.proofs.Common.{◌≡◌, ◌++◌, map, length}
use Rattle.sr_eval.specs.Inner.Resolving.{resolution_of}
use Rattle.sr_query.specs.Inner.Preparing.{resolved_item}
use Rattle.sr_query.proofs.parts.part_list.Given as goal

abbrev pub invariant-items : goal.invariant-items
invariant-items l = map resolution_of l.parts.items ++ map (resolved_item l.scope) l.left ≡ map (resolved_item l.scope) l.items

abbrev pub decreases-items : goal.decreases-items
decreases-items l = length l.left
