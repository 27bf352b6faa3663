use Rattle.std.proofs.Common.{length}
use Rattle.sr_query.proofs.tallies.+take_row.Given as goal

abbrev pub decreases-take_row : goal.decreases-take_row
decreases-take_row l = length l.tallies.now
