use Rattle.std.proofs.Common.{drop}
use Rattle.sr_parse_grammar.proofs.Keywords.{Left}
use Rattle.sr_parse_grammar.proofs.keyword.found_among.Given as goal

abbrev pub invariant-entries : goal.invariant-entries
invariant-entries l = Left l.word l.entries (drop l.entry-index l.entries)
