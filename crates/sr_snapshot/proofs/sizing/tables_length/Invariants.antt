use Rattle.std.proofs.Common.{◌≡◌, ◌+◌, length, map}
use Rattle.std.specs.List.{flat_map}
use Rattle.sr_logform.specs.Entries.{table_spelling}
use Rattle.sr_snapshot.specs.Snapshots.{rows_in}
use Rattle.sr_snapshot.proofs.sizing.tables_length.Given as goal

abbrev pub invariant-tables : goal.invariant-tables
invariant-tables l = l.length + length (flat_map table_spelling (map (rows_in l.rows.rows) l.left)) ≡ length (flat_map table_spelling (map (rows_in l.rows.rows) l.tables))

abbrev pub decreases-tables : goal.decreases-tables
decreases-tables l = length l.left
