use Rattle.sr_world.specs.Real.{layers}
use Rattle.sr_world.proofs.Keeping.{real_laws}
use Rattle.sr_world.proofs.worlds.every_step_keeps_a_world_good.Goals as goal

pub returns-clause-fresh : goal.returns-clause-fresh
returns-clause-fresh c = c.fresh_is_good.ensures layers real_laws

pub returns-clause-step : goal.returns-clause-step
returns-clause-step c = c.stays_good.ensures layers real_laws

pub returns-clause-steps : goal.returns-clause-steps
returns-clause-steps c = c.always_good.ensures.from_good layers real_laws

pub returns-clause-always : goal.returns-clause-always
returns-clause-always c = c.always_good.ensures.from_fresh layers real_laws
