use Rattle.sr_world_model.proofs.Bodies.{whole_bytes, whole_last, whole_taken}
use Rattle.sr_world_model.proofs.goodness.whole_body.Goals as goal

pub returns-clause-body : goal.returns-clause-body
returns-clause-body g c = λ p. whole_bytes p g.R.Rules.HasSpelling g.R.Rules.lawful

pub returns-clause-last : goal.returns-clause-last
returns-clause-last g c = λ p. whole_last p g.R.Rules.HasSpelling g.R.Rules.lawful

pub returns-clause-taken : goal.returns-clause-taken
returns-clause-taken g c = λ p laws w d user prev upto bytes good whole.
    whole_taken p g.R.Rules.HasSpelling g.R.Rules.lawful w d user prev upto bytes good whole laws
