use Rattle.std.proofs.Common.{◌≤◌, length}
use Rattle.sr_parse_grammar.specs.Catalog.{IsArticle}
use Rattle.sr_parse_grammar.specs.Inner.Going.{Closes}
use Rattle.sr_parse_reader.proofs.Loops.{Along}
use Rattle.sr_parse.proofs.creating.articles.Given as goal

abbrev pub invariant-more : goal.invariant-more
invariant-more l = record {
  reads : Along IsArticle Closes l.fn.reader l.reader l.items.items;
  less : length l.reader ≤ length l.fn.reader;
}

abbrev pub decreases-more : goal.decreases-more
decreases-more l = length l.reader
