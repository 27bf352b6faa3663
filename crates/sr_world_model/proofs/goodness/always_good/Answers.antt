use Rattle.sr_world_model.specs.Worlds.{fresh_world}
use Rattle.sr_world_model.proofs.Good.{stay, fresh}
use Rattle.sr_world_model.proofs.goodness.always_good.Goals as goal

pub returns-clause-from_good : goal.returns-clause-from_good
returns-clause-from_good g c = λ p laws. stay p g.R.Rules.HasSpelling g.R.Rules.lawful laws

pub returns-clause-from_fresh : goal.returns-clause-from_fresh
returns-clause-from_fresh g c = λ p laws names acts allowed.
    stay p g.R.Rules.HasSpelling g.R.Rules.lawful laws (fresh_world names) acts (fresh p g.R.Rules.HasSpelling g.R.Rules.lawful laws names) allowed
