use Rattle.sr_world_prefix.proofs.Lasting.{true_here, true_longer}
use Rattle.sr_world_prefix.proofs.histories.what_is_true_stays_so.Goals as goal

pub returns : goal.returns
returns c = record { longer = true_longer; world = true_here }
