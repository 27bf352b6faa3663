use Rattle.std.proofs.Common.{List, length}
use Rattle.sr_mail.specs.declared.piece.Piece.{Piece}
use Rattle.sr_mail.specs.Inner.Tracking.{Follows}
use Rattle.sr_mail.proofs.reach.Reach.settle.Given as goal

abbrev pub invariant-waiting : goal.invariant-waiting
invariant-waiting l = (pieces : List Piece) → Follows l.fn.self pieces → Follows l.self pieces

abbrev pub decreases-waiting : goal.decreases-waiting
decreases-waiting l = length l.self.waiting.entries
