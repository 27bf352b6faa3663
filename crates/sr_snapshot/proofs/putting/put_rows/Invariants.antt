use Rattle.std.proofs.Common.{◌≤◌, length}
use Rattle.std.specs.List.{flat_map}
use Rattle.sr_base.specs.Values.{row_spelling}
use Rattle.sr_rows.specs.Walks.{table_rows}
use Rattle.sr_snapshot.proofs.Puts.{Putting}
use Rattle.sr_snapshot.specs.Parts.{longest, rows_of}
use Rattle.sr_snapshot.proofs.putting.put_rows.Given as goal

abbrev pub invariant-rows : goal.invariant-rows
invariant-rows g l = record {
  putting : Putting l.file (flat_map row_spelling (rows_of (table_rows l.rows.rows l.table))) (flat_map row_spelling (rows_of l.walk)) (g.S.Held.seen l.fn.site) (g.S.Held.seen l.site) l.fn.out.buffer.items l.out.buffer.items l.out.place;
  short : length (flat_map row_spelling (rows_of l.walk)) ≤ longest;
}

abbrev pub decreases-rows : goal.decreases-rows
decreases-rows g l = length l.walk
