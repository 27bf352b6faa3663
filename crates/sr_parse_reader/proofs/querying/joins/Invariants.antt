use Rattle.std.proofs.Common.{◌≤◌, length}
use Rattle.sr_parse_grammar.specs.Writing.{IsJoin}
use Rattle.sr_parse_reader.proofs.Missing.{Joined}
use Rattle.sr_parse_reader.proofs.Loops.{Filed}
use Rattle.sr_parse_reader.proofs.querying.joins.Given as goal

abbrev pub invariant-more : goal.invariant-more
invariant-more l = record {
  few : length l.joins.items ≤ 7;
  reads : Filed IsJoin Joined l.fn.reader l.reader l.joins.items;
  less : length l.reader ≤ length l.fn.reader;
}

abbrev pub decreases-more : goal.decreases-more
decreases-more l = length l.reader
