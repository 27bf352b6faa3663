-- the rows are the ones before
use Rattle.std.proofs.Common.{◌≡◌, vec_len}
use Rattle.sr_rows.specs.Inner.Gathered.{gathered, filled}
use Rattle.sr_rows.proofs.rows.Rows.mark.Given as goal

abbrev pub invariant-loop-change : goal.invariant-loop-change
invariant-loop-change l = filled (gathered l.self-inside.tables.entries) ≡ l.fn.self.rows

abbrev pub decreases-loop-change : goal.decreases-loop-change
decreases-loop-change l = vec_len l.self-inside.changes
