use Rattle.std.proofs.Common.{◌≡◌, ◌+◌, length}
use Rattle.sr_rows.specs.Walks.{table_rows}
use Rattle.sr_snapshot.specs.Parts.{rows_of}
use Rattle.sr_snapshot.proofs.putting.count_of.Given as goal

abbrev pub invariant-rows : goal.invariant-rows
invariant-rows l = l.count + length (rows_of l.walk) ≡ length (rows_of (table_rows l.rows.rows l.table))

abbrev pub decreases-rows : goal.decreases-rows
decreases-rows l = length l.walk
