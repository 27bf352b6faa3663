use Rattle.sr_world_model.proofs.Longer.{given_in}
use Rattle.sr_world_model.proofs.outlook.given_rises.Goals as goal

pub returns-clause-rises : goal.returns-clause-rises
returns-clause-rises g c = λ p laws d user es. (given_in p g.R.Rules.HasSpelling g.R.Rules.lawful laws d user es).0

pub returns-clause-within : goal.returns-clause-within
returns-clause-within g c = λ p laws d user es. (given_in p g.R.Rules.HasSpelling g.R.Rules.lawful laws d user es).1
