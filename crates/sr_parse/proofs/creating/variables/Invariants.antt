use Rattle.std.proofs.Common.{◌≤◌, length}
use Rattle.sr_parse_grammar.specs.Triggers.{IsVariable}
use Rattle.sr_parse_grammar.specs.Inner.Going.{Stop, is_declare}
use Rattle.sr_parse_reader.proofs.Loops.{Filed}
use Rattle.sr_parse.proofs.creating.variables.Given as goal

abbrev pub invariant-more : goal.invariant-more
invariant-more l = record {
  reads : Filed IsVariable (Stop is_declare) l.fn.reader l.reader l.variables.items;
  less : length l.reader ≤ length l.fn.reader;
}

abbrev pub decreases-more : goal.decreases-more
decreases-more l = length l.reader
