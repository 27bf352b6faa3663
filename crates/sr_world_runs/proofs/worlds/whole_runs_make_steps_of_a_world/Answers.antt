use Rattle.sr_world_runs.proofs.AgentSteps.{agent_steps}
use Rattle.sr_world_runs.proofs.WorldSteps.{script_steps, untouched_steps}
use Rattle.sr_world_runs.proofs.worlds.whole_runs_make_steps_of_a_world.Goals as goal

pub returns : goal.returns
returns c = record { untouched = untouched_steps; agent = agent_steps; script = script_steps }
