use Rattle.std.proofs.Common.{◌+◌, ◌*◌, ◌<◌, length}
use Rattle.sr_ast.specs.Exprs.{term_of}
use Rattle.sr_parse_grammar.specs.Inner.Levels.{rank}
use Rattle.sr_parse_grammar.specs.Inner.Expressions.{IsDeep}
use Rattle.sr_parse_reader.proofs.Refusing.{Partly}
use Rattle.sr_parse_reader.proofs.exprs.+exprs.Given as goal

abbrev pub decreases-chain : goal.decreases-chain
decreases-chain l = 16 * (l.room.depth + l.room.parentheses) + rank l.level + 1

abbrev pub decreases-part : goal.decreases-part
decreases-part l = 16 * (l.room.depth + l.room.parentheses) + rank l.level

abbrev pub decreases-negation : goal.decreases-negation
decreases-negation l = 16 * (l.room.depth + l.room.parentheses) + 9

abbrev pub decreases-comparison : goal.decreases-comparison
decreases-comparison l = 16 * (l.room.depth + l.room.parentheses) + 8

abbrev pub decreases-signed : goal.decreases-signed
decreases-signed l = 16 * (l.room.depth + l.room.parentheses) + 2

abbrev pub decreases-primary : goal.decreases-primary
decreases-primary l = 16 * (l.room.depth + l.room.parentheses)

abbrev pub invariant-chain-more : goal.invariant-chain-more
invariant-chain-more l = record {
  deep : IsDeep (term_of l.left.expr) l.left.depth l.room.depth;
  reads : Partly l.level l.room l.fn.reader l.reader (term_of l.left.expr);
  less : length l.reader < length l.fn.reader;
}

abbrev pub decreases-chain-more : goal.decreases-chain-more
decreases-chain-more l = length l.reader
