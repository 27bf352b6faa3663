use Rattle.std.proofs.Common.{◌≤◌, length}
use Rattle.sr_parse_grammar.specs.Writing.{IsOrder}
use Rattle.sr_parse_grammar.specs.Inner.Going.{Stop, is_direction}
use Rattle.sr_parse_reader.proofs.Loops.{Along}
use Rattle.sr_parse_reader.proofs.querying.order_list.Given as goal

abbrev pub invariant-more : goal.invariant-more
invariant-more l = record {
  reads : Along IsOrder (Stop is_direction) l.fn.reader l.reader l.items.items;
  less : length l.reader ≤ length l.fn.reader;
}

abbrev pub decreases-more : goal.decreases-more
decreases-more l = length l.reader
