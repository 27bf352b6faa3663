use Rattle.sr_world_untouched.proofs.Inserted.{inserted}
use Rattle.sr_world_untouched.proofs.laws.an_insert_from_above_agrees.Goals as goal

pub returns : goal.returns
returns c = record { row = inserted }
