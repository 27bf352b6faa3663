use Rattle.std.proofs.Common.{rules}
use Rattle.sr_parse_reader.proofs.Parts.{handed}
use Rattle.sr_parse_reader.proofs.Names.{unreferred, referred, dotted, undotted}
use Rattle.sr_parse_reader.proofs.reader.Reader.reference.Goals as goal

pub returns-in_err-first-clause-reads : goal.returns-in_err-first-clause-reads
returns-in_err-first-clause-reads c = handed _ (unreferred c.in_err-first.ensures.reads) (search rules)

pub returns-in_err-name-clause-reads : goal.returns-in_err-name-clause-reads
returns-in_err-name-clause-reads c = handed _ (referred c.in_ok-first.ensures.reads (dotted (c.takes_sign.ensures.found (search rules)) c.in_err-name.ensures.reads)) (search rules)

pub returns-then-takes_sign-clause-reads : goal.returns-then-takes_sign-clause-reads
returns-then-takes_sign-clause-reads c = referred c.in_ok-first.ensures.reads (dotted (c.takes_sign.ensures.found (search rules)) c.in_ok-name.ensures.reads)

pub returns-clause-reads : goal.returns-clause-reads
returns-clause-reads c = referred c.in_ok-first.ensures.reads (undotted (c.takes_sign.ensures.kept (search rules)) (c.takes_sign.ensures.absent (search rules)))
