use Rattle.std.proofs.Common.{◌≡◌, length}
use Rattle.sr_exec_dml.specs.Fitting.{RowsFit}
use Rattle.sr_rows.specs.Inner.Steps.{GoesOn}
use Rattle.sr_database_fold.specs.Inner.Reached.{OpsFit, NoneRuns}
use Rattle.sr_database_fold.specs.Inner.Readings.{state_in}
use Rattle.sr_database_fold.proofs.Behind.{ReachLeft}
use Rattle.sr_database_fold.proofs.steps.do_each.Given as goal

abbrev pub invariant-ops : goal.invariant-ops
invariant-ops l = record {
  rows : RowsFit l.catalog l.rows.rows;
  fits : OpsFit (state_in l.catalog l.rows) l.left;
  more : ReachLeft (state_in l.fn.catalog l.fn.rows) (state_in l.catalog l.rows) l.ops l.left;
  on : GoesOn l.fn.rows l.rows;
  quiet : NoneRuns l.ops → (l.catalog ≡ l.fn.catalog) × NoneRuns l.left;
}

abbrev pub decreases-ops : goal.decreases-ops
decreases-ops l = length l.left
