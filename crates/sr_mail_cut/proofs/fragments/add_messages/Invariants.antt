use Rattle.std.specs.Vec.Iter.{into_iter_items, into_iter_len}
use Rattle.sr_mail_cut.proofs.Filling.{SoFar}
use Rattle.sr_mail_cut.proofs.fragments.add_messages.Given as goal

abbrev pub invariant-fragments : goal.invariant-fragments
invariant-fragments l = SoFar l.head l.span.prev l.span.upto l.span.total l.fn.fragments.items l.fn.messages.items l.messages.items l.start (into_iter_items l.left)

abbrev pub decreases-fragments : goal.decreases-fragments
decreases-fragments l = into_iter_len l.left
