use Rattle.std.proofs.Common.{length}
use Rattle.sr_query.proofs.fixing.+is_column.Given as goal

abbrev pub decreases-is_column : goal.decreases-is_column
decreases-is_column l = length l.before.now
