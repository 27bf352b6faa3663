use Rattle.std.proofs.Common.{◌∷◌, length}
use Rattle.sr_mail.specs.Inner.Spans.{IsSoFar}
use Rattle.sr_mail.proofs.covering.farthest_from.Given as goal

abbrev pub invariant-spans : goal.invariant-spans
invariant-spans l = IsSoFar (l.fn.first ∷ l.rest) l.reached l.farthest l.left

abbrev pub decreases-spans : goal.decreases-spans
decreases-spans l = length l.left
