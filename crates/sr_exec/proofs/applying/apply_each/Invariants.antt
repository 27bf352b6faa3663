use Rattle.std.proofs.Common.{◌≡◌, length}
use Rattle.sr_rows.specs.Inner.Steps.{GoesOn}
use Rattle.sr_exec_dml.specs.Applying.{applied}
use Rattle.sr_exec.proofs.applying.apply_each.Given as goal

abbrev pub invariant-changes : goal.invariant-changes
invariant-changes l = record {
  rows : applied l.catalog l.left l.rows.rows ≡ applied l.catalog l.changes l.fn.rows.rows;
  on : GoesOn l.fn.rows l.rows;
}

abbrev pub decreases-changes : goal.decreases-changes
decreases-changes l = length l.left
