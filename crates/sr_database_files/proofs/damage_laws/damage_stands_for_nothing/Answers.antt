use Rattle.sr_database_files.proofs.Damaged.{damaged_is_none, behind_is_not_damaged}
use Rattle.sr_database_files.proofs.damage_laws.damage_stands_for_nothing.Goals as goal

pub returns-clause-damaged : goal.returns-clause-damaged
returns-clause-damaged c = damaged_is_none

pub returns-clause-damaged_behind : goal.returns-clause-damaged_behind
returns-clause-damaged_behind c = behind_is_not_damaged
