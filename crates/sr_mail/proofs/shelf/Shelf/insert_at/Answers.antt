use Rattle.sr_mail.proofs.Shelved.{comes_in_order}
use Rattle.sr_mail.proofs.shelf.Shelf.insert_at.Goals as goal

pub invariant_of-self : goal.invariant_of-self
invariant_of-self c = rw c.in_err-insert.ensures.items c.self.invariant

pub invariant_of-self-2 : goal.invariant_of-self-2
invariant_of-self-2 c =
    rw c.in_ok-insert.ensures.items
    (comes_in_order c.self.inside.windows.items c.args.self.now c.args.place c.args.piece c.in_ok-held.held c.self.inside.farthest c.farther-farthest.result c.self.view_is c.in_ok-held.ensures c.self.invariant c.requires.before c.requires.behind c.requires.new
    c.farther-farthest.ensures.before c.farther-farthest.ensures.ready)
