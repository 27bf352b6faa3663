use Rattle.sr_world.proofs.Keeping.{lawful_more}
use Rattle.sr_world.proofs.layers.a_lawful_history_grows.Goals as goal

pub returns-clause-one_more : goal.returns-clause-one_more
returns-clause-one_more c = lawful_more
