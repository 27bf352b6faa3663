use Rattle.sr_receive.proofs.Reaching.{far_taken}
use Rattle.sr_receive.proofs.laws.windows_are_taken_as_far_as_they_reach.Goals as goal

pub returns : goal.returns
returns c = record { far = far_taken }
