use Rattle.std.proofs.Common.{length}
use Rattle.sr_exec_dml.specs.Fitting.{RowsFit}
use Rattle.test_replication.proofs.databases.run_all.Given as goal

abbrev pub invariant-statements : goal.invariant-statements
invariant-statements l = RowsFit l.catalog l.rows.rows

abbrev pub decreases-statements : goal.decreases-statements
decreases-statements l = length l.left
