use Rattle.sr_snapshot_read.proofs.TablesRead.{ReadingRows}
use Rattle.sr_snapshot_read.proofs.rows.read_rows.Given as goal

abbrev pub invariant-rows : goal.invariant-rows
invariant-rows g l = ReadingRows l.file l.table l.count l.left (g.S.Held.seen l.fn.site) (g.S.Held.seen l.site) l.fn.window l.window l.after l.fn.rows l.rows

abbrev pub decreases-rows : goal.decreases-rows
decreases-rows g l = l.left
