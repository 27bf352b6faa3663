use Rattle.sr_world.specs.Real.{layers}
use Rattle.sr_world.proofs.Keeping.{real_laws}
use Rattle.sr_world.proofs.worlds.runs_keep_a_world_good.Goals as goal

pub returns-clause-allowed : goal.returns-clause-allowed
returns-clause-allowed c = c.run_good.ensures.allowed layers

pub returns-clause-good : goal.returns-clause-good
returns-clause-good c = c.run_good.ensures.good layers real_laws

pub returns-clause-runs : goal.returns-clause-runs
returns-clause-runs c = c.runs_good.ensures.good layers real_laws

pub returns-clause-broken_off : goal.returns-clause-broken_off
returns-clause-broken_off c = c.runs_good.ensures.beginning layers real_laws

pub returns-clause-steps : goal.returns-clause-steps
returns-clause-steps c = c.runs_good.ensures.steps layers
