use Rattle.std.proofs.Common.{◌≤◌, length, map}
use Rattle.std.specs.List.{flat_map}
use Rattle.sr_base.specs.Fields.{list_spelling}
use Rattle.sr_logform.specs.Entries.{table_spelling}
use Rattle.sr_snapshot.proofs.Puts.{Putting}
use Rattle.sr_snapshot.specs.Parts.{longest}
use Rattle.sr_snapshot.specs.Snapshots.{rows_in}
use Rattle.sr_snapshot.proofs.writing.put_tables.Given as goal

abbrev pub invariant-tables : goal.invariant-tables
invariant-tables g l = record {
  putting : Putting l.file (list_spelling table_spelling (map (rows_in l.rows.rows) l.tables)) (flat_map table_spelling (map (rows_in l.rows.rows) l.left)) (g.S.Held.seen l.fn.site) (g.S.Held.seen l.site) l.fn.out.buffer.items l.out.buffer.items l.out.place;
  short : length (flat_map table_spelling (map (rows_in l.rows.rows) l.left)) ≤ longest;
}

abbrev pub decreases-tables : goal.decreases-tables
decreases-tables g l = length l.left
