use Rattle.std.proofs.Common.{◌≤◌, length}
use Rattle.sr_parse_grammar.specs.Expressions.{IsExpr}
use Rattle.sr_parse_grammar.specs.Inner.Going.{Stop, expression_goes}
use Rattle.sr_parse_reader.proofs.Loops.{Along}
use Rattle.sr_parse_reader.proofs.querying.values.Given as goal

abbrev pub invariant-more : goal.invariant-more
invariant-more l = record {
  reads : Along IsExpr (Stop expression_goes) l.fn.reader l.reader l.items.items;
  less : length l.reader ≤ length l.fn.reader;
}

abbrev pub decreases-more : goal.decreases-more
decreases-more l = length l.reader
