use Rattle.std.proofs.Common.{◌≡◌, ◌≤◌, length}
use Rattle.sr_lex.specs.Inner.Reading.{after_line}
use Rattle.sr_lex.proofs.gap.line_end.Given as goal

abbrev pub invariant-bytes : goal.invariant-bytes
invariant-bytes l = (after_line l.rest ≡ after_line l.bytes) × (length l.rest ≤ length l.bytes)

abbrev pub decreases-bytes : goal.decreases-bytes
decreases-bytes l = length l.rest
