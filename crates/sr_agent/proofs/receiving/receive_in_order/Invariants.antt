use Rattle.std.proofs.Common.{length}
use Rattle.sr_agent.proofs.Ordering.{IsTurning}
use Rattle.sr_agent.proofs.receiving.receive_in_order.Given as goal

-- the partners before those that are left had their partners' passes
abbrev pub invariant-partners : goal.invariant-partners
invariant-partners g l =
    IsTurning l.fn.db l.db (g.S.Held.seen l.fn.site) (g.S.Held.seen l.site) l.names l.left l.fn.bag l.bag l.purges l.fn.progress l.progress (g.O.Sink.seen l.fn.sink) (g.O.Sink.seen l.sink)

abbrev pub decreases-partners : goal.decreases-partners
decreases-partners g l = length l.left
