use Rattle.std.proofs.Common.{ℕ, ap}
use Rattle.sr_snapshot.specs.declared.fault.SnapFault.TheVariants.{Damaged}
use Rattle.sr_snapshot_read.proofs.fields.within.Goals as goal

pub returns-in-Damaged : goal.returns-in-Damaged
returns-in-Damaged c = rw c.in-Damaged.is (ap (λ (n : ℕ). Damaged n) c.lesser.ensures)
