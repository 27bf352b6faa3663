use Rattle.sr_database.proofs.Alike.{database_alike, database_by_files, database_by_image, databases_alike}
use Rattle.sr_database.proofs.InForce.{in_force}
use Rattle.sr_database.proofs.Opened.{in_force_from}
use Rattle.sr_database.proofs.Started.{starts}
use Rattle.sr_database.proofs.alike_laws.a_database_is_of_alike_histories.Goals as goal

pub returns-clause-alike : goal.returns-clause-alike
returns-clause-alike c = λ db publisher es others seen database alike. database_alike db publisher es others alike seen database

pub returns-clause-image : goal.returns-clause-image
returns-clause-image c = database_by_image

pub returns-clause-files : goal.returns-clause-files
returns-clause-files c = database_by_files

pub returns-clause-one : goal.returns-clause-one
returns-clause-one c = databases_alike

pub returns-clause-in_force : goal.returns-clause-in_force
returns-clause-in_force c = in_force

pub returns-clause-in_force_behind : goal.returns-clause-in_force_behind
returns-clause-in_force_behind c = in_force_from

pub returns-clause-beginning : goal.returns-clause-beginning
returns-clause-beginning c = starts
