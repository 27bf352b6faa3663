use Rattle.std.proofs.Common.{length}
use Rattle.sr_eval.proofs.meaning.+column_value.Given as goal

abbrev pub decreases-column_value : goal.decreases-column_value
decreases-column_value l = length l.sources.now
