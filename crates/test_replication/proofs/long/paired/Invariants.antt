use Rattle.std.proofs.Common.{◌≡◌, map, take}
use Rattle.sr_mail.specs.declared.piece.Piece.{Piece}
use Rattle.sr_msgform.specs.declared.message.Message.{Message}
use Rattle.test_replication.proofs.long.paired.Given as goal

abbrev pub invariant-loop-piece : goal.invariant-loop-piece
invariant-loop-piece l = map (λ (pair : Piece × Message). pair.0) l.pairs.items ≡ take l.piece-index l.pieces
