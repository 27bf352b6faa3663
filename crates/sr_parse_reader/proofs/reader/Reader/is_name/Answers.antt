use Rattle.std.proofs.Common.{rules}
use Rattle.sr_parse_reader.proofs.Nexts.{name_next}
use Rattle.sr_parse_reader.proofs.reader.Reader.is_name.Goals as goal

pub returns-in-Some-Keyword-clause-found : goal.returns-in-Some-Keyword-clause-found
returns-in-Some-Keyword-clause-found c = λ is. name_next c.args.self.now c.in-Some-Keyword.keyword c.named.result (search rules) c.named.ensures (search rules)
