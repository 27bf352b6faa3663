use Rattle.std.proofs.Common.{◌-◌, ◌^◌}
use Rattle.sr_logfile.proofs.Scans.{IsReading}
use Rattle.sr_logfile.proofs.opening.end_of.Given as goal

abbrev pub invariant-records : goal.invariant-records
invariant-records g l = IsReading l.file l.base l.position l.size (g.S.Held.seen l.fn.site) (g.S.Held.seen l.site)

abbrev pub decreases-records : goal.decreases-records
decreases-records g l = 2 ^ 62 - l.position
