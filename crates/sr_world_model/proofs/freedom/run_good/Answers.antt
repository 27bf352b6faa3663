use Rattle.sr_world_model.specs.Worlds.{acts_by}
use Rattle.sr_world_model.proofs.Good.{stay}
use Rattle.sr_world_model.proofs.Leave.{in_world}
use Rattle.sr_world_model.proofs.freedom.run_good.Goals as goal

pub returns-clause-allowed : goal.returns-clause-allowed
returns-clause-allowed g c = λ p. in_world p g.R.Rules.HasSpelling g.R.Rules.lawful

pub returns-clause-good : goal.returns-clause-good
returns-clause-good g c = λ p laws messages d es database_steps w named is among can good.
    stay p g.R.Rules.HasSpelling g.R.Rules.lawful laws w (acts_by d database_steps) good (in_world p g.R.Rules.HasSpelling g.R.Rules.lawful messages d es database_steps w named is among can)
