use Rattle.sr_logfile_carry.proofs.Carried.{is_spelled}
use Rattle.sr_logfile_carry.proofs.laws.what_is_carried_is_a_log.Goals as goal

pub returns : goal.returns
returns c = record { spells = is_spelled }
