use Rattle.sr_resolve.proofs.AllSet.{values_set}
use Rattle.sr_resolve.proofs.laws.what_differs_is_set.Goals as goal

pub returns : goal.returns
returns c = record { set = values_set }
