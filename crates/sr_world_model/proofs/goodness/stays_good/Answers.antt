use Rattle.sr_world_model.proofs.Good.{stays}
use Rattle.sr_world_model.proofs.goodness.stays_good.Goals as goal

pub returns : goal.returns
returns g c = λ p laws. stays p g.R.Rules.HasSpelling g.R.Rules.lawful laws
