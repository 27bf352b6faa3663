use Rattle.std.proofs.Common.{◌-◌}
use Rattle.sr_world_steps.proofs.Chained.{CameTo}
use Rattle.sr_world_steps.proofs.chains.is_whole.Given as goal

abbrev pub invariant-bytes : goal.invariant-bytes
invariant-bytes l = CameTo l.messages l.message l.place

abbrev pub decreases-bytes : goal.decreases-bytes
decreases-bytes l = l.message.total - l.place
