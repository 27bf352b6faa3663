use Rattle.std.proofs.Common.{◌≡◌, ◌<◌, List, ◌++◌, length, take, drop, set, sym, ap, subst}
use Rattle.sr_mail.specs.Inboxes.{Gathered}
use Rattle.sr_mail.specs.Inner.Shelves.{first_dropped}
use Rattle.sr_mail.proofs.Shelved.{order-set, drops}
use Rattle.sr_mail.proofs.shelf.Shelf.drop_at.Goals as goal

pub invariant_of-self : goal.invariant_of-self
invariant_of-self c =
    let gs = c.self.inside.windows.items in
    let y = c.index_mut.result.now in
    let x = c.set_dropped.new.self in
    let lt : c.args.place < length gs = subst (λ (l : List Gathered). c.args.place < length l) (sym c.self.view_is) c.requires in
    (order-set gs c.args.place y x lt c.index_mut.ensures.value (ap (λ (g : Gathered). g.window) c.set_dropped.ensures) c.self.invariant.0, rw c.as_slice.ensures.value at c.farthest_of-self-inside.ensures)

pub returns : goal.returns
returns c =
    let gs = c.self.inside.windows.items in
    let lt : c.args.place < length gs = subst (λ (l : List Gathered). c.args.place < length l) (sym c.self.view_is) c.requires in
    subst (λ l. set gs c.args.place c.set_dropped.new.self ≡ take c.args.place l ++ first_dropped (drop c.args.place l)) c.self.view_is
    (drops gs c.args.place c.index_mut.result.now c.set_dropped.new.self lt c.index_mut.ensures.value c.set_dropped.ensures)
