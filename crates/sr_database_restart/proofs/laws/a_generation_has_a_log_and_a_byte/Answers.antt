use Rattle.sr_database_restart.proofs.Standing.{named_names, of_one}
use Rattle.sr_database_restart.proofs.laws.a_generation_has_a_log_and_a_byte.Goals as goal

pub returns : goal.returns
returns c = record { log = of_one; byte = named_names }
