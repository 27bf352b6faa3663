use Rattle.std.proofs.Common.{length}
use Rattle.sr_session.specs.Inner.Running.{Under}
use Rattle.sr_session.proofs.running.run_statements.Given as goal

-- the statements before those that are left are done
abbrev pub invariant-statements : goal.invariant-statements
invariant-statements g l =
    Under l.fn.db l.db (g.S.Held.seen l.fn.site) (g.S.Held.seen l.site) (g.O.Sink.seen l.fn.sink) (g.O.Sink.seen l.sink) l.session.lines.items l.session.region l.statements l.left

abbrev pub decreases-statements : goal.decreases-statements
decreases-statements g l = length l.left
