use Rattle.std.proofs.Common.{rules, sym}
use Rattle.sr_parse_reader.proofs.Optionals.{moved, lacking}
use Rattle.sr_parse_reader.proofs.Orders.{asc_read, desc_read}
use Rattle.sr_parse_reader.proofs.querying.is_descending.Goals as goal

pub returns-then-takes-clause-reads : goal.returns-then-takes-clause-reads
returns-then-takes-clause-reads c = asc_read (c.takes.ensures.found (search rules))

pub returns-clause-reads : goal.returns-clause-reads
returns-clause-reads c = moved (c.takes.ensures.kept (search rules)) (desc_read _ (lacking (sym (c.takes.ensures.kept (search rules))) (c.takes.ensures.absent (search rules))) c.takes-2.ensures.found c.takes-2.ensures.absent c.takes-2.ensures.kept)
