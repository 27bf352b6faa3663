use Rattle.std.proofs.Common.{length}
use Rattle.dbremote_demo.proofs.Lines.{IsRest}
use Rattle.dbremote_demo.proofs.ending.last_line.Given as goal

-- before what is left is nothing, or a line feed
abbrev pub invariant-lines : goal.invariant-lines
invariant-lines l = IsRest l.lines l.line

abbrev pub decreases-lines : goal.decreases-lines
decreases-lines l = length l.line
