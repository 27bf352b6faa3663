use Rattle.sr_database_did.proofs.Joins.{did_on}
use Rattle.sr_database_did.proofs.laws.effects_join.Goals as goal

pub returns : goal.returns
returns c = record { effects = did_on }
