use Rattle.sr_logform.proofs.Counting.{entry_long}
use Rattle.sr_logform.proofs.laws.an_entry_is_as_long_as_its_ops.Goals as goal

pub returns : goal.returns
returns c = entry_long
