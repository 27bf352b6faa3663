use Rattle.std.proofs.Common.{length}
use Rattle.dbremote_demo.proofs.Lines.{IsWithin}
use Rattle.dbremote_demo.proofs.ending.behind_first_line.Given as goal

-- no line feed was seen that something follows
abbrev pub invariant-bytes : goal.invariant-bytes
invariant-bytes l = IsWithin l.lines l.left

abbrev pub decreases-bytes : goal.decreases-bytes
decreases-bytes l = length l.left
