use Rattle.std.proofs.Common.{◌↔◌, length}
use Rattle.std.specs.List.{AllByRecursion}
use Rattle.sr_mail.specs.Assembled.{IsItsPiece}
use Rattle.sr_mail.proofs.assembling.are_own.Given as goal

abbrev pub invariant-pieces : goal.invariant-pieces
invariant-pieces l = AllByRecursion IsItsPiece l.left ↔ AllByRecursion IsItsPiece l.pieces

abbrev pub decreases-pieces : goal.decreases-pieces
decreases-pieces l = length l.left
