use Rattle.std.proofs.Common.{◌-◌}
use Rattle.dbremote_demo_draws.proofs.UnderWay.{IsUnderWay}
use Rattle.dbremote_demo_draws.proofs.drawing.scripts_of.Given as goal

abbrev pub invariant-statements : goal.invariant-statements
invariant-statements l = IsUnderWay l.fn.draws l.first l.end l.draws l.i l.scripts

abbrev pub decreases-statements : goal.decreases-statements
decreases-statements l = l.end - l.i
