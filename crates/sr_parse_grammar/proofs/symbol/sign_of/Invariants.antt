use Rattle.std.proofs.Common.{length}
use Rattle.sr_parse_grammar.proofs.Words.{MayStand}
use Rattle.sr_parse_grammar.proofs.symbol.sign_of.Given as goal

abbrev pub invariant-signs : goal.invariant-signs
invariant-signs l = MayStand l.bytes l.rest

abbrev pub decreases-signs : goal.decreases-signs
decreases-signs l = length l.rest
