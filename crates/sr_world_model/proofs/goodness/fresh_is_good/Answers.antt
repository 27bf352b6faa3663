use Rattle.sr_world_model.proofs.Good.{fresh}
use Rattle.sr_world_model.proofs.goodness.fresh_is_good.Goals as goal

pub returns : goal.returns
returns g c = λ p laws. fresh p g.R.Rules.HasSpelling g.R.Rules.lawful laws
