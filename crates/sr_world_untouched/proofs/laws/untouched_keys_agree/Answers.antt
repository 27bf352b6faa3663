use Rattle.sr_world_untouched.proofs.All.{keys_agree}
use Rattle.sr_world_untouched.proofs.laws.untouched_keys_agree.Goals as goal

pub returns : goal.returns
returns c = record { agree = keys_agree }
