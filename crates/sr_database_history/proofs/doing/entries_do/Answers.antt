use Rattle.sr_database_history.proofs.Taking.{taken_more}
use Rattle.sr_database_history.proofs.doing.entries_do.Goals as goal

pub returns-clause-taken_more : goal.returns-clause-taken_more
returns-clause-taken_more c = taken_more
