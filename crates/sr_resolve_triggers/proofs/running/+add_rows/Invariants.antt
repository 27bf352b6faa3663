use Rattle.std.proofs.Common.{length}
use Rattle.sr_resolve_triggers.proofs.running.+add_rows.Given as goal

abbrev pub decreases-add_rows : goal.decreases-add_rows
decreases-add_rows l = length l.aliases.now
