use Rattle.std.proofs.Common.{◌≡◌, ◌≤◌, length}
use Rattle.std.specs.Option.{option_copied}
use Rattle.sr_rows.specs.Inner.Steps.{GoesOn}
use Rattle.sr_catalog_schema.specs.Catalogs.{Lists}
use Rattle.sr_exec_dml.specs.Applying.{applied}
use Rattle.sr_exec_dml.specs.Statements.{table_named}
use Rattle.sr_exec_dml.proofs.applying.apply_same.Given as goal

abbrev pub invariant-changes : goal.invariant-changes
invariant-changes l = record {
  rows : (catalog : Lists) → table_named catalog l.name ≡ option_copied l.table → applied catalog l.left l.rows.rows ≡ applied catalog l.changes l.fn.rows.rows;
  shorter : length l.left ≤ length l.changes;
  on : GoesOn l.fn.rows l.rows;
}

abbrev pub decreases-changes : goal.decreases-changes
decreases-changes l = length l.left
