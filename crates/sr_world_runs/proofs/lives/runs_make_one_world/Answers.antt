use Rattle.sr_world_runs.proofs.Living.{lived}
use Rattle.sr_world_runs.proofs.lives.runs_make_one_world.Goals as goal

pub returns : goal.returns
returns c = lived
