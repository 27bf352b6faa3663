use Rattle.sr_world_model.proofs.Leave.{still}
use Rattle.sr_world_model.proofs.freedom.still_allowed.Goals as goal

pub returns : goal.returns
returns g c = λ p. still p g.R.Rules.HasSpelling g.R.Rules.lawful
