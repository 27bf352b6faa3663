use Rattle.std.proofs.Common.{map, arith}
use Rattle.std.proofs.lemmas.Bool.{leb-true, le-leb}
use Rattle.std.proofs.lemmas.List.{take_all}
use Rattle.sr_mail.specs.Inner.Tracking.{Follows}
use Rattle.sr_mail.proofs.Following.{covers_all, reaches_all}
use Rattle.sr_mail.proofs.assembling.have_all.Goals as goal

pub returns : goal.returns
returns c =
    let r = c.loop-piece.reach in
    let ps = map (λ pair. pair.0) c.args.pieces.now in
    let h : Follows r ps = rw (take_all c.loop-piece.piece-index c.args.pieces.now (omega (arith, c.loop-piece-test.false))) at c.loop-piece.invariant.follows in
    (λ e. covers_all r ps c.args.total h (leb-true c.args.total r.reached e), λ cover. le-leb c.args.total r.reached (reaches_all r ps c.args.total h c.loop-piece.invariant.settled cover))
