use Rattle.sr_world_model.proofs.Leave.{all_more}
use Rattle.sr_world_model.proofs.freedom.run_still_allowed.Goals as goal

pub returns : goal.returns
returns g c = λ p. all_more p g.R.Rules.HasSpelling g.R.Rules.lawful
