use Rattle.sr_parse_reader.proofs.Carrying.{only_read}
use Rattle.sr_parse_reader.proofs.querying.only.Goals as goal

pub returns-clause-reads : goal.returns-clause-reads
returns-clause-reads c = only_read _ c.takes.ensures.found c.takes.ensures.absent c.takes.ensures.kept
