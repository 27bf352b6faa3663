use Rattle.std.proofs.Common.{◌↔◌, length, map}
use Rattle.sr_logform.specs.Rules.{AreDistinct}
use Rattle.sr_send.proofs.writable.are_distinct.Given as goal

-- all differ where those that are left do
abbrev pub invariant-items : goal.invariant-items
invariant-items g l = AreDistinct (map g.T.Named.name_of l.left) ↔ AreDistinct (map g.T.Named.name_of l.items)

abbrev pub decreases-items : goal.decreases-items
decreases-items g l = length l.left
