use Rattle.std.proofs.Common.{length}
use Rattle.sr_query.proofs.items.+all_values.Given as goal

abbrev pub decreases-all_values : goal.decreases-all_values
decreases-all_values l = length l.combination.now
