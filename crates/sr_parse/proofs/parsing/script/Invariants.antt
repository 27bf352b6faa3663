use Rattle.std.proofs.Common.{◌≤◌, length}
use Rattle.sr_parse_grammar.specs.Scripts.Stage.{opened}
use Rattle.sr_parse.proofs.Pieces.{Told}
use Rattle.sr_parse.proofs.parsing.script.Given as goal

abbrev pub invariant-statements : goal.invariant-statements
invariant-statements l = record {
  reads : Told opened l.fn.reader l.reader l.script.items;
  less : length l.reader ≤ length l.fn.reader;
}

abbrev pub decreases-statements : goal.decreases-statements
decreases-statements l = length l.reader
