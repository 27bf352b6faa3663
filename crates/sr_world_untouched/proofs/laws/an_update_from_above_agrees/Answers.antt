use Rattle.sr_world_untouched.proofs.Updated.{differing_updated}
use Rattle.sr_world_untouched.proofs.laws.an_update_from_above_agrees.Goals as goal

pub returns : goal.returns
returns c = record { row = differing_updated }
