use Rattle.std.proofs.lemmas.Bool.{leb-true, le-leb}
use Rattle.sr_mail.proofs.Following.{covers_all, reaches_all}
use Rattle.sr_mail.proofs.held.Held.is_ready.Goals as goal

pub returns-then-not-self : goal.returns-then-not-self
returns-then-not-self c =
    let r = c.self.inside.reach in
    let ps = c.self.inside.pieces.items in
    let total = c.self.inside.window.total in
    rw (← c.self.view_is) (
      λ e. (c.if-not-self.true, covers_all r ps total c.self.invariant.follows (leb-true total r.reached e)),
      λ h. le-leb total r.reached (reaches_all r ps total c.self.invariant.follows c.self.invariant.settled h.1),
    )
