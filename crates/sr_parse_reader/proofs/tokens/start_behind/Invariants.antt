use Rattle.std.proofs.Common.{length}
use Rattle.sr_parse_reader.proofs.Meant.{IsTaken}
use Rattle.sr_parse_reader.proofs.tokens.start_behind.Given as goal

abbrev pub invariant-tokens : goal.invariant-tokens
invariant-tokens l = IsTaken l.fn.text l.lexer l.left l.fn.count

abbrev pub decreases-tokens : goal.decreases-tokens
decreases-tokens l = length l.lexer.1
