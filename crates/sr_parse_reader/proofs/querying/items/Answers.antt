use Rattle.std.proofs.Common.{rules}
use Rattle.sr_parse_reader.proofs.Parts.{handed}
use Rattle.sr_parse_reader.proofs.Optionals.{moved}
use Rattle.sr_parse_reader.proofs.Selections.{all_read, each_read}
use Rattle.sr_parse_reader.proofs.querying.items.Goals as goal

pub returns-then-takes_sign-clause-reads : goal.returns-then-takes_sign-clause-reads
returns-then-takes_sign-clause-reads c = all_read (c.takes_sign.ensures.found (search rules))

pub returns-in_err-items-clause-reads : goal.returns-in_err-items-clause-reads
returns-in_err-items-clause-reads c = handed _ (each_read (c.takes_sign.ensures.absent (search rules)) (moved (c.takes_sign.ensures.kept (search rules)) c.in_err-items.ensures.reads)) (search rules)

pub returns-clause-reads : goal.returns-clause-reads
returns-clause-reads c = each_read (c.takes_sign.ensures.absent (search rules)) (moved (c.takes_sign.ensures.kept (search rules)) c.in_ok-items.ensures.reads)
