use Rattle.sr_world_prefix.proofs.Goodness.{agent_good, new_good, script_good, untouched_good}
use Rattle.sr_world_prefix.proofs.runs.whole_runs_keep_histories_good.Goals as goal

pub returns : goal.returns
returns c = record { new = new_good; untouched = untouched_good; agent = agent_good; script = script_good }
