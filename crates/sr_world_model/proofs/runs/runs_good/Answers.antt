use Rattle.sr_world_model.proofs.Running.{after_acts, runs_allowed, runs_stay, beginnings_stay}
use Rattle.sr_world_model.proofs.runs.runs_good.Goals as goal

pub returns-clause-good : goal.returns-clause-good
returns-clause-good g c = λ p laws. runs_stay p g.R.Rules.HasSpelling g.R.Rules.lawful laws

pub returns-clause-beginning : goal.returns-clause-beginning
returns-clause-beginning g c = λ p laws. beginnings_stay p g.R.Rules.HasSpelling g.R.Rules.lawful laws

pub returns-clause-steps : goal.returns-clause-steps
returns-clause-steps g c = λ p. runs_allowed p g.R.Rules.HasSpelling g.R.Rules.lawful

pub returns-clause-world : goal.returns-clause-world
returns-clause-world g c = after_acts
