use Rattle.std.proofs.Common.{◌≡◌, ◌+◌, length}
use Rattle.std.specs.List.{flat_map}
use Rattle.sr_base.specs.Values.{row_spelling}
use Rattle.sr_rows.specs.Walks.{table_rows}
use Rattle.sr_snapshot.specs.Parts.{rows_of}
use Rattle.sr_snapshot.proofs.measuring.rows_length.Given as goal

abbrev pub invariant-rows : goal.invariant-rows
invariant-rows l = l.length + length (flat_map row_spelling (rows_of l.walk)) ≡ length (flat_map row_spelling (rows_of (table_rows l.rows.rows l.table)))

abbrev pub decreases-rows : goal.decreases-rows
decreases-rows l = length l.walk
