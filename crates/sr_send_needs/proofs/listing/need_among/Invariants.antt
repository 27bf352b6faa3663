use Rattle.std.proofs.Common.{◌-◌, ◌^◌}
use Rattle.sr_send_needs.specs.Inner.Listing.{LookedAmong}
use Rattle.sr_send_needs.proofs.listing.need_among.Given as goal

-- the places up to here were looked at
abbrev pub invariant-places : goal.invariant-places
invariant-places g l = LookedAmong l.db l.viewer.survey.now l.viewer.user.now l.fn.sent.0 l.at.0 (g.S.Held.seen l.fn.site) (g.S.Held.seen l.site)

abbrev pub decreases-places : goal.decreases-places
decreases-places g l = 2 ^ 64 - l.at.0
