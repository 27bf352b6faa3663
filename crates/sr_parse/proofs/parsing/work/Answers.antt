use Rattle.sr_parse.proofs.FirstWords.{work_read}
use Rattle.sr_parse.proofs.parsing.work.Goals as goal

pub returns-clause-reads : goal.returns-clause-reads
returns-clause-reads c = work_read c.takes.result c.takes.ensures.found c.takes.ensures.absent c.takes.ensures.kept
