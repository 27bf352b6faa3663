use Rattle.sr_database_meaning.proofs.Standing.{one_standing, stand_behind}
use Rattle.sr_database_meaning.proofs.history_laws.files_stand_behind_one_beginning.Goals as goal

pub returns-clause-history : goal.returns-clause-history
returns-clause-history c = stand_behind

pub returns-clause-one : goal.returns-clause-one
returns-clause-one c = one_standing
