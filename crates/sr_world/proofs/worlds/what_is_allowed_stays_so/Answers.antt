use Rattle.sr_world.specs.Real.{layers}
use Rattle.sr_world.proofs.worlds.what_is_allowed_stays_so.Goals as goal

pub returns-clause-step : goal.returns-clause-step
returns-clause-step c = c.still_allowed.ensures layers

pub returns-clause-run : goal.returns-clause-run
returns-clause-run c = c.run_still_allowed.ensures layers
