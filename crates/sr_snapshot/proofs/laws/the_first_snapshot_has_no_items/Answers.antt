use Rattle.sr_snapshot.proofs.Firsts.{first_is}
use Rattle.sr_snapshot.proofs.laws.the_first_snapshot_has_no_items.Goals as goal

pub returns-clause-is : goal.returns-clause-is
returns-clause-is c = first_is
