use Rattle.sr_world_prefix.proofs.Deciders.{agent_decided, script_decided, untouched_decided}
use Rattle.sr_world_prefix.proofs.runs.whole_runs_keep_what_is_decided.Goals as goal

pub returns : goal.returns
returns c = record { untouched = untouched_decided; agent = agent_decided; script = script_decided }
