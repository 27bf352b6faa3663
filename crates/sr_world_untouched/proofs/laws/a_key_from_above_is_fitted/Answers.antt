use Rattle.sr_world_untouched.proofs.Inserted.{key_goes}
use Rattle.sr_world_untouched.proofs.laws.a_key_from_above_is_fitted.Goals as goal

pub returns : goal.returns
returns c = record { key = key_goes }
