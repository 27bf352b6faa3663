use Rattle.std.proofs.Common.{◌-◌}
use Rattle.sr_send.specs.Inner.Steps.{UnderWay}
use Rattle.sr_send.proofs.reading.put_given.Given as goal

-- what the entries read so far give is put
abbrev pub invariant-entries : goal.invariant-entries
invariant-entries g l = UnderWay l.db l.aim l.fn.scanner.user l.scanner l.post l.after (g.S.Held.seen l.fn.site) (g.S.Held.seen l.site)

abbrev pub decreases-entries : goal.decreases-entries
decreases-entries g l = l.db.log.end - l.after.0
