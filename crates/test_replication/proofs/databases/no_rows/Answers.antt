use Rattle.std.proofs.Common.{sym, subst}
use Rattle.sr_exec_dml.specs.Fitting.{RowsFit}
use Rattle.test_replication.proofs.databases.no_rows.Goals as goal

pub returns : goal.returns
returns c = record { rows = subst (RowsFit c.args.catalog.now) (sym c.new.ensures.rows) (c.rows_stay_fitting.ensures.none c.args.catalog.now) }
