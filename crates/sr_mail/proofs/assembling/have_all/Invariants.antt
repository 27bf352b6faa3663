use Rattle.std.proofs.Common.{map, take}
use Rattle.sr_mail.specs.Inner.Tracking.{Follows, IsSettled}
use Rattle.sr_mail.proofs.assembling.have_all.Given as goal

abbrev pub invariant-loop-piece : goal.invariant-loop-piece
invariant-loop-piece l = record {
  follows : Follows l.reach (map (λ pair. pair.0) (take l.piece-index l.pieces));
  settled : IsSettled l.reach;
}
