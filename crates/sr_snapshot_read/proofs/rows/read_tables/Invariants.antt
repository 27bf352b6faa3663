use Rattle.std.proofs.Common.{length}
use Rattle.sr_snapshot_read.proofs.TablesRead.{ReadingTables}
use Rattle.sr_snapshot_read.proofs.rows.read_tables.Given as goal

abbrev pub invariant-tables : goal.invariant-tables
invariant-tables g l = ReadingTables l.file l.tables l.left (g.S.Held.seen l.fn.site) (g.S.Held.seen l.site) l.fn.window l.window l.rows

abbrev pub decreases-tables : goal.decreases-tables
decreases-tables g l = length l.left
