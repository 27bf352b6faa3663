use Rattle.std.proofs.Common.{rules, refl}
use Rattle.sr_parse_reader.proofs.Constants.{date_read, date_missed}
use Rattle.sr_parse_reader.proofs.exprs.date.Goals as goal

pub returns-in-Some-clause-reads : goal.returns-in-Some-clause-reads
returns-in-Some-clause-reads c = date_read (search rules)

pub returns-in-None-clause-reads : goal.returns-in-None-clause-reads
returns-in-None-clause-reads c = date_missed refl (λ x rest h. search rules)
