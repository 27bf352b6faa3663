use Rattle.sr_world_prefix.proofs.Silent.{agent_true, script_true, untouched_true}
use Rattle.sr_world_prefix.proofs.letters.whole_runs_put_what_is_true.Goals as goal

pub returns : goal.returns
returns c = record { untouched = untouched_true; agent = agent_true; script = script_true }
