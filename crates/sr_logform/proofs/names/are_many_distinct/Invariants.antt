-- The names are distinct exactly where those that are left are, and none of these was passed.
use Rattle.std.proofs.Common.{◌≡◌, map, length}
use Rattle.sr_logform.specs.Inner.Rules.{are_distinct}
use Rattle.sr_logform.proofs.Distinct.{are_left}
use Rattle.sr_logform.proofs.names.are_many_distinct.Given as goal

abbrev pub invariant-items : goal.invariant-items
invariant-items g l = are_distinct (map g.T.Named.name_of l.items) ≡ are_left l.seen (map g.T.Named.name_of l.left)

abbrev pub decreases-items : goal.decreases-items
decreases-items g l = length l.left
