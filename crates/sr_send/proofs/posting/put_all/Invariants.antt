use Rattle.std.proofs.Common.{length}
use Rattle.sr_send.proofs.Numbers.{IsPutting}
use Rattle.sr_send.proofs.posting.put_all.Given as goal

-- the messages before those that are left are put
abbrev pub invariant-messages : goal.invariant-messages
invariant-messages g l = IsPutting l.aim.address l.aim.count l.put l.messages l.left l.total (g.S.Held.seen l.fn.site) (g.S.Held.seen l.site)

abbrev pub decreases-messages : goal.decreases-messages
decreases-messages g l = length l.left
