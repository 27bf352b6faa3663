use Rattle.std.proofs.Common.{◌-◌}
use Rattle.sr_send_needs.specs.Inner.Starting.{LookedTo}
use Rattle.sr_send_needs.proofs.starting.is_still.Given as goal

-- no statement ran up to here
abbrev pub invariant-entries : goal.invariant-entries
invariant-entries g l = LookedTo l.db l.fn.from l.at (g.S.Held.seen l.fn.site) (g.S.Held.seen l.site)

abbrev pub decreases-entries : goal.decreases-entries
decreases-entries g l = l.db.log.end - l.at.0
