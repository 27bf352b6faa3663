use Rattle.std.proofs.Common.{arith}
use Rattle.sr_logfile.proofs.Prefixes.{header_is}
use Rattle.sr_logfile.proofs.opening.base_in.Goals as goal

pub returns-else-base-gt-FARTHEST_OFFSET-clause-some : goal.returns-else-base-gt-FARTHEST_OFFSET-clause-some
returns-else-base-gt-FARTHEST_OFFSET-clause-some c =
    (header_is c.args.prefix.now c.from_be_bytes-base.result (omega arith) (c.fits-prefix 8) (c.fits-prefix 9) (c.fits-prefix 10) (c.fits-prefix 11) (c.fits-prefix 12) (c.fits-prefix 13) (c.fits-prefix 14) (c.fits-prefix 15) (omega arith) (omega arith) (omega arith) (omega arith) (omega arith) (omega arith) (omega arith) (omega arith) c.from_be_bytes-base.ensures, omega arith)
