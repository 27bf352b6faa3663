use Rattle.sr_snapshot.proofs.Histories.{history_is}
use Rattle.sr_snapshot.proofs.laws.a_history_has_a_beginning.Goals as goal

pub returns-clause-is : goal.returns-clause-is
returns-clause-is c = history_is
