use Rattle.std.proofs.Common.{◌≡◌, ◌≤◌, Some, length}
use Rattle.sr_rows.specs.Inner.Steps.{GoesOn}
use Rattle.sr_catalog_schema.specs.Catalogs.{Lists}
use Rattle.sr_exec_dml.specs.Applying.{applied}
use Rattle.sr_exec_dml.specs.Statements.{table_named}
use Rattle.sr_exec_dml.proofs.applying.replace_each.Given as goal

abbrev pub invariant-changes : goal.invariant-changes
invariant-changes l = record {
  rows : (catalog : Lists) → table_named catalog l.name ≡ Some l.table → applied catalog l.left l.hand.rows.rows ≡ applied catalog l.changes l.fn.hand.rows.rows;
  shorter : length l.left ≤ length l.changes;
  on : GoesOn l.fn.hand.rows l.hand.rows;
  hand : l.hand.table ≡ l.table.name;
}

abbrev pub decreases-changes : goal.decreases-changes
decreases-changes l = length l.left
