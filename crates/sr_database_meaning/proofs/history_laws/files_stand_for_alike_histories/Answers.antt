use Rattle.sr_database_meaning.proofs.Alike.{alike, whole}
use Rattle.sr_database_meaning.proofs.history_laws.files_stand_for_alike_histories.Goals as goal

pub returns-clause-one : goal.returns-clause-one
returns-clause-one c = alike

pub returns-clause-whole : goal.returns-clause-whole
returns-clause-whole c = whole
