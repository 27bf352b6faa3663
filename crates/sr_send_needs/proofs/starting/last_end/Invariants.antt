use Rattle.std.proofs.Common.{◌-◌}
use Rattle.sr_send_needs.specs.Inner.Starting.{WalkedTo}
use Rattle.sr_send_needs.proofs.starting.last_end.Given as goal

-- the ends up to here were read
abbrev pub invariant-ends : goal.invariant-ends
invariant-ends g l = WalkedTo l.db l.sent.0 l.at (g.S.Held.seen l.fn.site) (g.S.Held.seen l.site)

abbrev pub decreases-ends : goal.decreases-ends
decreases-ends g l = l.db.log.end - l.at.0
