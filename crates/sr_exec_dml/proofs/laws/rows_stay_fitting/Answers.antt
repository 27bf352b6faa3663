use Rattle.sr_exec_dml.proofs.Applied.{no_rows_fit, rows_stay_fit}
use Rattle.sr_exec_dml.proofs.laws.rows_stay_fitting.Goals as goal

pub returns : goal.returns
returns c = record {
  none = no_rows_fit;
  fit = rows_stay_fit;
}
