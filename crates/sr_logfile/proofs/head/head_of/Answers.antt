use Rattle.std.proofs.Common.{arith}
use Rattle.sr_logfile.proofs.Prefixes.{has_length}
use Rattle.sr_logfile.proofs.head.head_of.Goals as goal
use Rattle.sr_logfile.proofs.head.head_of.Goals.{else-count-gt0-via-then-count-gt0+else-gate-ne1, else-count-gt0-via-else-count-gt0}

pub returns : goal.returns
returns c bytes place read =
    has_length bytes place c.args.count c.args.head.now c.from_be_bytes.result read c.if-count-lt5.false c.told-head c.fits-head (omega arith) c.from_be_bytes.ensures c.from_be_bytes.type_inv
