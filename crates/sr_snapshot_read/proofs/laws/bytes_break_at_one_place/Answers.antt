use Rattle.sr_snapshot_read.proofs.OnePlace.{one_place}
use Rattle.sr_snapshot_read.proofs.laws.bytes_break_at_one_place.Goals as goal

pub returns : goal.returns
returns c = record { one = one_place }
