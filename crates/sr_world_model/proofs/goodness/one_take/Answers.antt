use Rattle.sr_world_model.proofs.Good.{one_take}
use Rattle.sr_world_model.proofs.goodness.one_take.Goals as goal

pub returns : goal.returns
returns g c = λ p laws w d user e f place place' ops ops' good is is' allowed allowed'.
    one_take p g.R.Rules.HasSpelling g.R.Rules.lawful laws w d user e f place place' ops ops' good is is' allowed.1 allowed'.1
