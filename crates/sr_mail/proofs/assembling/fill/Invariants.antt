use Rattle.std.proofs.Common.{◌≡◌, ◌++◌, ◌<◌, ℕ, Some, List, length, get_or}
use Rattle.std.specs.List.{AllByRecursion}
use Rattle.sr_mail.specs.declared.piece.Piece.{Piece}
use Rattle.sr_mail.specs.Assembled.{IsItsPiece, byte_at}
use Rattle.sr_mail.proofs.assembling.fill.Given as goal
use Rattle.sr_msgform.specs.declared.message.Message.{Message}

abbrev pub invariant-pieces : goal.invariant-pieces
invariant-pieces l = record {
  long : length l.bytes ≡ length l.fn.bytes;
  own : AllByRecursion IsItsPiece l.left;
  written : (done : List (Piece × Message)) × (l.pieces ≡ l.left ++ done) × ((place byte : ℕ) → place < length l.bytes → byte_at done place ≡ Some byte → get_or l.bytes place 0 ≡ byte);
}

abbrev pub decreases-pieces : goal.decreases-pieces
decreases-pieces l = length l.left
