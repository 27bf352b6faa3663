use Rattle.std.proofs.Common.{rules}
use Rattle.sr_parse_reader.proofs.Optionals.{moved}
use Rattle.sr_parse_reader.proofs.Selections.{inner_read, outer_read}
use Rattle.sr_parse_reader.proofs.querying.join_word.Goals as goal

pub returns-then-takes-clause-reads : goal.returns-then-takes-clause-reads
returns-then-takes-clause-reads c = inner_read _ (c.takes.ensures.found (search rules)) c.keyword.ensures.reads

pub returns-clause-reads : goal.returns-clause-reads
returns-clause-reads c = outer_read _ (c.takes.ensures.absent (search rules)) (moved (c.takes.ensures.kept (search rules)) c.keyword-2.ensures.reads)
