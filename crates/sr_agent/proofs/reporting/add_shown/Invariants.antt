use Rattle.std.proofs.Common.{length}
use Rattle.sr_agent.specs.Inner.Steps.{AddedSome}
use Rattle.sr_agent.specs.Lines.{shown}
use Rattle.sr_agent.proofs.reporting.add_shown.Given as goal

-- the bytes so far were added
abbrev pub invariant-bytes : goal.invariant-bytes
invariant-bytes g l = AddedSome (shown l.fn.name) (shown l.left) l.fn.held.items l.held.items (g.O.Sink.seen l.fn.sink) (g.O.Sink.seen l.sink)

abbrev pub decreases-bytes : goal.decreases-bytes
decreases-bytes g l = length l.left
