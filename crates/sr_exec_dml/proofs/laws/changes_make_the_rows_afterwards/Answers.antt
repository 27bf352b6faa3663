use Rattle.sr_exec_dml.proofs.Afterwards.{rows_become, others_stay}
use Rattle.sr_exec_dml.proofs.RowsAre.{rows_are_those_after}
use Rattle.sr_exec_dml.proofs.laws.changes_make_the_rows_afterwards.Goals as goal

pub returns : goal.returns
returns c = record {
  rows = rows_become;
  others = others_stay;
  whole = rows_are_those_after;
}
