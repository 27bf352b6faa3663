use Rattle.sr_database_history.proofs.Conflicts.{met}
use Rattle.sr_database_history.proofs.keeping.conflicts_meet_a_row.Goals as goal

pub returns : goal.returns
returns c = record { met = met }
