use Rattle.sr_exec_dml.proofs.Differing.{holds_one_each, changes_differ, differences_change}
use Rattle.sr_exec_dml.proofs.laws.changes_are_where_rows_differ.Goals as goal

pub returns : goal.returns
returns c = record {
  one = holds_one_each;
  each = changes_differ;
  whole = differences_change;
}
