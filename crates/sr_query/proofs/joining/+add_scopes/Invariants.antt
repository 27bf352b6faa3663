use Rattle.std.proofs.Common.{length}
use Rattle.sr_query.proofs.joining.+add_scopes.Given as goal

abbrev pub decreases-add_scopes : goal.decreases-add_scopes
decreases-add_scopes l = length l.joined.now
