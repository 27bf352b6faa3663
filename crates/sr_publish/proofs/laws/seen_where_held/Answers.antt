use Rattle.sr_publish.proofs.Held.{seen_so}
use Rattle.sr_publish.proofs.laws.seen_where_held.Goals as goal

pub returns : goal.returns
returns c = record { seen = seen_so }
