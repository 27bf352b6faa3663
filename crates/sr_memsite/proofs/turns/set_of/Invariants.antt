use Rattle.std.proofs.Common.{take}
use Rattle.sr_memsite.specs.Inner.Numbering.{IsSetOf}
use Rattle.sr_memsite.proofs.turns.set_of.Given as goal

-- the numbers so far
abbrev pub invariant-loop-number : goal.invariant-loop-number
invariant-loop-number l = IsSetOf l.set (take l.number-index l.numbers)
