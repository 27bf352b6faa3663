use Rattle.sr_world_model.proofs.Leave.{database_steps_join, database_steps_begin}
use Rattle.sr_world_model.proofs.freedom.runs_join.Goals as goal

pub returns-clause-joined : goal.returns-clause-joined
returns-clause-joined g c = λ p. database_steps_join p g.R.Rules.HasSpelling g.R.Rules.lawful

pub returns-clause-beginning : goal.returns-clause-beginning
returns-clause-beginning g c = λ p. database_steps_begin p g.R.Rules.HasSpelling g.R.Rules.lawful
