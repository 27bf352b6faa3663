use Rattle.std.proofs.Common.{rules}
use Rattle.sr_parse_reader.proofs.Starts.{word_read, word_missed}
use Rattle.sr_parse_reader.proofs.reader.Reader.keyword.Goals as goal

pub returns-then-takes-clause-reads : goal.returns-then-takes-clause-reads
returns-then-takes-clause-reads c = word_read (c.takes.ensures.found (search rules))

pub returns-else-takes-clause-reads : goal.returns-else-takes-clause-reads
returns-else-takes-clause-reads c = word_missed (c.takes.ensures.kept (search rules)) (c.takes.ensures.absent (search rules))
