use Rattle.sr_send.proofs.Written.{can_be_written}
use Rattle.sr_send.proofs.laws.what_a_history_gives_can_be_written.Goals as goal

pub returns : goal.returns
returns c = can_be_written
