use Rattle.std.proofs.Common.{◌-◌}
use Rattle.sr_exec_dml.specs.Fitting.{RowsFit}
use Rattle.test_replication.proofs.loading.load.Given as goal

abbrev pub invariant-rows : goal.invariant-rows
invariant-rows l = RowsFit l.catalog l.rows.rows

abbrev pub decreases-rows : goal.decreases-rows
decreases-rows l = l.count - l.key
