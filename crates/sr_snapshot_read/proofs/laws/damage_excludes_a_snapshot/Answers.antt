use Rattle.sr_snapshot_read.proofs.Exclusion.{damage_excludes}
use Rattle.sr_snapshot_read.proofs.laws.damage_excludes_a_snapshot.Goals as goal

pub returns : goal.returns
returns c = record { none = damage_excludes }
