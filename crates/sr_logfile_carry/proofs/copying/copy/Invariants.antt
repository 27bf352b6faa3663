use Rattle.std.proofs.Common.{◌-◌}
use Rattle.sr_logfile_carry.proofs.Copied.{Copying}
use Rattle.sr_logfile_carry.proofs.copying.copy.Given as goal

abbrev pub invariant-pieces : goal.invariant-pieces
invariant-pieces g l = Copying l.part l.into l.place (g.S.Held.seen l.fn.site) (g.S.Held.seen l.site)

abbrev pub decreases-pieces : goal.decreases-pieces
decreases-pieces g l = l.part.end - l.place
