use Rattle.sr_world_model.proofs.Good.{taken_within, confirm_stands, ask_stands}
use Rattle.sr_world_model.proofs.goodness.nothing_passes.Goals as goal

pub returns-clause-taken : goal.returns-clause-taken
returns-clause-taken g c = λ p laws. taken_within p g.R.Rules.HasSpelling g.R.Rules.lawful laws

pub returns-clause-upto : goal.returns-clause-upto
returns-clause-upto g c = λ p laws w m good among. (good.messages m among).stands

pub returns-clause-confirm : goal.returns-clause-confirm
returns-clause-confirm g c = λ p laws. confirm_stands p g.R.Rules.HasSpelling g.R.Rules.lawful laws

pub returns-clause-ask : goal.returns-clause-ask
returns-clause-ask g c = λ p laws. ask_stands p g.R.Rules.HasSpelling g.R.Rules.lawful laws
