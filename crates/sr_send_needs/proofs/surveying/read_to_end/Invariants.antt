use Rattle.std.proofs.Common.{◌-◌}
use Rattle.sr_send_needs.specs.Inner.Surveying.{HasTaken}
use Rattle.sr_send_needs.proofs.surveying.read_to_end.Given as goal

-- the survey took the entries up to here
abbrev pub invariant-entries : goal.invariant-entries
invariant-entries g l = HasTaken l.db l.survey l.at (g.S.Held.seen l.fn.site) (g.S.Held.seen l.site)

abbrev pub decreases-entries : goal.decreases-entries
decreases-entries g l = l.db.log.end - l.at.0
