use Rattle.sr_parse_grammar.proofs.Stated.{printed-is_written}
use Rattle.sr_parse_grammar.proofs.Closed.{written-normal, written-printed, written-parsed}
use Rattle.sr_parse_grammar.proofs.laws.what_prints_is_read_so.Goals as goal

pub returns : goal.returns
returns c = record { printed = printed-is_written; normal = written-normal; parsed = written-parsed; again = written-printed }
