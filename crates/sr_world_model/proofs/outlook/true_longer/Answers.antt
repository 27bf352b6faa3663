use Rattle.sr_world_model.proofs.Longer.{true_longer}
use Rattle.sr_world_model.proofs.outlook.true_longer.Goals as goal

pub returns : goal.returns
returns g c = λ p laws. true_longer p g.R.Rules.HasSpelling g.R.Rules.lawful laws
