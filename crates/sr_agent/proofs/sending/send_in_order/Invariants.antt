use Rattle.std.proofs.Common.{length}
use Rattle.sr_send.specs.Inner.Surveys.{Surveys}
use Rattle.sr_agent.proofs.InOrder.{IsWalking}
use Rattle.sr_agent.proofs.sending.send_in_order.Given as goal

-- those before the ones that are left were sent to, and the survey that is shared is one of the database
abbrev pub invariant-partners : goal.invariant-partners
invariant-partners g l = IsWalking l.fn.db l.db (g.S.Held.seen l.fn.site) (g.S.Held.seen l.site) l.length l.partners l.left (g.O.Sink.seen l.fn.sink) (g.O.Sink.seen l.sink) × Surveys l.db l.shared (g.S.Held.seen l.site)

abbrev pub decreases-partners : goal.decreases-partners
decreases-partners g l = length l.left
