use Rattle.std.proofs.Common.{◌-◌, ◌^◌}
use Rattle.sr_send.specs.Inner.Places.{Telling}
use Rattle.sr_send.proofs.telling.put_places.Given as goal

-- the places up to here were told
abbrev pub invariant-places : goal.invariant-places
invariant-places g l = Telling l.db l.aim l.viewer.survey.now l.viewer.user.now l.post l.at (g.S.Held.seen l.fn.site) (g.S.Held.seen l.site)

abbrev pub decreases-places : goal.decreases-places
decreases-places g l = 2 ^ 64 - l.at.0
