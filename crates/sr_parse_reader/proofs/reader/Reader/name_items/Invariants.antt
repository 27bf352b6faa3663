use Rattle.std.proofs.Common.{◌<◌, length}
use Rattle.sr_parse_grammar.specs.Symbols.{IsName}
use Rattle.sr_parse_reader.specs.Inner.Reading.{Anywhere}
use Rattle.sr_parse_reader.proofs.Loops.{Along}
use Rattle.sr_parse_reader.proofs.reader.Reader.name_items.Given as goal

abbrev pub invariant-more : goal.invariant-more
invariant-more l = record {
  reads : Along IsName Anywhere l.fn.self l.self l.names.items;
  less : length l.self < length l.fn.self;
}

abbrev pub decreases-more : goal.decreases-more
decreases-more l = length l.self
