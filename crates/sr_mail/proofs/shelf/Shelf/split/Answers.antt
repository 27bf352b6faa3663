use Rattle.sr_mail.proofs.Shelved.{order-taken, order-dropped}
use Rattle.sr_mail.proofs.shelf.Shelf.split.Goals as goal

pub invariant_of-result : goal.invariant_of-result
invariant_of-result c = (rw c.in_ok-windows.ensures.tail (order-dropped _ c.self.inside.windows.items c.self.invariant.0), rw c.as_slice-2.ensures.value at c.farthest_of-farthest.ensures)

pub invariant_of-self-2 : goal.invariant_of-self-2
invariant_of-self-2 c = (rw c.in_ok-windows.ensures.items (order-taken _ c.self.inside.windows.items c.self.invariant.0), rw c.as_slice.ensures.value at c.farthest_of-self-inside.ensures)
