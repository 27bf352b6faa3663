use Rattle.std.proofs.Common.{◌≡◌, length}
use Rattle.std.specs.List.{AllByRecursion}
use Rattle.std.specs.Option.{option_copied}
use Rattle.sr_exec_dml.specs.Fitting.{RowsFit}
use Rattle.sr_rows.specs.Inner.Steps.{at_mark}
use Rattle.sr_database_fold.specs.Inner.Movements.{Differs, IsHeld}
use Rattle.sr_database_fold.proofs.Changing.{ChangesLeft}
use Rattle.sr_database_fold.proofs.changes.go_on_changes.Given as goal

abbrev pub invariant-changes : goal.invariant-changes
invariant-changes l = record {
  rows : RowsFit l.catalog l.rows.rows;
  fresh : l.rows ≡ at_mark l.rows.rows;
  differ : AllByRecursion Differs l.left;
  last : IsHeld l.catalog (option_copied l.last);
  more : ChangesLeft l.catalog l.fn.rows.rows l.rows.rows l.changes l.left;
}

abbrev pub decreases-changes : goal.decreases-changes
decreases-changes l = length l.left
