use Rattle.std.proofs.Common.{length}
use Rattle.sr_parse_reader.proofs.Meant.{IsSoFar}
use Rattle.sr_parse_reader.proofs.tokens.symbols.Given as goal

abbrev pub invariant-tokens : goal.invariant-tokens
invariant-tokens l = IsSoFar l.fn.text l.lexer l.symbols.items

abbrev pub decreases-tokens : goal.decreases-tokens
decreases-tokens l = length l.lexer.1
