use Rattle.sr_snapshot_read.proofs.RowsRead.{ReadingValues}
use Rattle.sr_snapshot_read.proofs.values.read_values.Given as goal

abbrev pub invariant-values : goal.invariant-values
invariant-values g l = ReadingValues l.file l.count l.width l.left (g.S.Held.seen l.fn.site) (g.S.Held.seen l.site) l.fn.window l.window l.values.items

abbrev pub decreases-values : goal.decreases-values
decreases-values g l = l.left
