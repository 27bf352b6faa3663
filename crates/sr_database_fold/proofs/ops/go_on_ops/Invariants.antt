use Rattle.std.proofs.Common.{◌≡◌, length}
use Rattle.std.specs.List.{AllByRecursion}
use Rattle.sr_exec_dml.specs.Fitting.{RowsFit}
use Rattle.sr_rows.specs.Inner.Steps.{at_mark}
use Rattle.sr_database_fold.specs.Inner.Movements.{OutcomeDiffers}
use Rattle.sr_database_fold.specs.Inner.Readings.{state_in}
use Rattle.sr_database_fold.proofs.Taking.{OpsLeft}
use Rattle.sr_database_fold.proofs.ops.go_on_ops.Given as goal

abbrev pub invariant-ops : goal.invariant-ops
invariant-ops l = record {
  rows : RowsFit l.catalog l.rows.rows;
  fresh : l.rows ≡ at_mark l.rows.rows;
  differ : AllByRecursion (λ p. OutcomeDiffers p.1) l.left;
  more : OpsLeft (state_in l.fn.catalog l.fn.rows) (state_in l.catalog l.rows) l.ops l.left;
}

abbrev pub decreases-ops : goal.decreases-ops
decreases-ops l = length l.left
