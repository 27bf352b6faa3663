use Rattle.sr_ast.specs.NormalForms.{Differ}
use Rattle.std.proofs.Common.{◌≤◌, length, AllPairs}
use Rattle.sr_parse_grammar.specs.Triggers.{IsAlias}
use Rattle.sr_parse_grammar.specs.Inner.Going.{Stop, is_image}
use Rattle.sr_parse_reader.proofs.Loops.{Filed}
use Rattle.sr_parse.proofs.creating.aliases.Given as goal

abbrev pub invariant-more : goal.invariant-more
invariant-more l = record {
  apart : AllPairs Differ l.aliases.items;
  reads : Filed IsAlias (Stop is_image) l.fn.reader l.reader l.aliases.items;
  less : length l.reader ≤ length l.fn.reader;
}

abbrev pub decreases-more : goal.decreases-more
decreases-more l = length l.reader
