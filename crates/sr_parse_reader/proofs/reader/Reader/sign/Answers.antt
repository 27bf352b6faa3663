use Rattle.std.proofs.Common.{rules}
use Rattle.sr_parse_reader.proofs.Starts.{sign_read, sign_missed}
use Rattle.sr_parse_reader.proofs.reader.Reader.sign.Goals as goal

pub returns-then-takes_sign-clause-reads : goal.returns-then-takes_sign-clause-reads
returns-then-takes_sign-clause-reads c = sign_read (c.takes_sign.ensures.found (search rules))

pub returns-else-takes_sign-clause-reads : goal.returns-else-takes_sign-clause-reads
returns-else-takes_sign-clause-reads c = sign_missed (c.takes_sign.ensures.kept (search rules)) (c.takes_sign.ensures.absent (search rules))
