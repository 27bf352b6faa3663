use Rattle.sr_logfile.proofs.Uniqueness.{one_spelling, one_damage, never_both}
use Rattle.sr_logfile.proofs.Totality.{spelled_or_damaged}
use Rattle.sr_logfile.proofs.laws.one_spelling_or_one_damage.Goals as goal

pub returns-clause-one_spelling : goal.returns-clause-one_spelling
returns-clause-one_spelling c = one_spelling

pub returns-clause-one_damage : goal.returns-clause-one_damage
returns-clause-one_damage c = one_damage

pub returns-clause-never_both : goal.returns-clause-never_both
returns-clause-never_both c = never_both

pub returns-clause-some : goal.returns-clause-some
returns-clause-some c = spelled_or_damaged
