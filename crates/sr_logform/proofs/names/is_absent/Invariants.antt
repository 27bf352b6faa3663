-- The name is none of the others exactly where it is none of those that are left.
use Rattle.std.proofs.Common.{◌≡◌, map, length}
use Rattle.sr_logform.specs.Inner.Rules.{is_absent}
use Rattle.sr_logform.proofs.names.is_absent.Given as goal

abbrev pub invariant-others : goal.invariant-others
invariant-others g l = is_absent l.name (map g.T.Named.name_of l.others) ≡ is_absent l.name (map g.T.Named.name_of l.left)

abbrev pub decreases-others : goal.decreases-others
decreases-others g l = length l.left
