use Rattle.std.proofs.Common.{length}
use Rattle.sr_eval.proofs.values.+value_at_place.Given as goal

abbrev pub decreases-value_at_place : goal.decreases-value_at_place
decreases-value_at_place l = length l.sources.now
