use Rattle.std.proofs.Common.{ap}
use Rattle.sr_rows.specs.Marks.{Marked}
use Rattle.sr_snapshot_read.proofs.rows.put.Goals as goal

pub put_at_mark-requires : goal.put_at_mark-requires
put_at_mark-requires c = record { fresh = ap (λ (m : Marked). m.trail) c.requires.marked }
