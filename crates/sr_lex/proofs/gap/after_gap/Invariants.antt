use Rattle.std.proofs.Common.{◌≡◌, length}
use Rattle.sr_lex.specs.Inner.Reading.{after_gap}
use Rattle.sr_lex.proofs.gap.after_gap.Given as goal

abbrev pub invariant-bytes : goal.invariant-bytes
invariant-bytes l = after_gap l.rest ≡ after_gap l.bytes

abbrev pub decreases-bytes : goal.decreases-bytes
decreases-bytes l = length l.rest
