use Rattle.sr_exec_dml.proofs.Applied.{fitting_changes_keep, statements_changes_fit}
use Rattle.sr_exec_dml.proofs.laws.changes_fit.Goals as goal

pub returns : goal.returns
returns c = record {
  keep = fitting_changes_keep;
  statements = statements_changes_fit;
}
