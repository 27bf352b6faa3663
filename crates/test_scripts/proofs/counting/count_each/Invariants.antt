use Rattle.std.proofs.Common.{length}
use Rattle.std.specs.List.{AllByRecursion}
use Rattle.sr_ast.specs.NormalForms.{IsNormal}
use Rattle.sr_exec_dml.specs.Fitting.{RowsFit}
use Rattle.test_scripts.proofs.counting.count_each.Given as goal

abbrev pub invariant-statements : goal.invariant-statements
invariant-statements l = AllByRecursion IsNormal l.left × RowsFit l.catalog l.rows.rows × RowsFit l.catalog l.rows.marked

abbrev pub decreases-statements : goal.decreases-statements
decreases-statements l = length l.left
