use Rattle.std.proofs.Common.{◌≡◌, [], ◌++◌, List, map, vec_len}
use Rattle.std.specs.BTreeMap as tree
use Rattle.sr_base.specs.declared.value.Value.{Value}
use Rattle.sr_base.specs.Order.{key_cmp}
use Rattle.sr_exec_dml.specs.Inner.Edits.{AreEdits}
use Rattle.sr_exec_dml.specs.Statements.{entry_of}
use Rattle.sr_exec_dml.proofs.edits.edits_of_rows.Given as goal

abbrev pub invariant-rows : goal.invariant-rows
invariant-rows l = record {
  ordered : tree.IsOrdered key_cmp l.edits;
  edits : (done : List (List Value)) × (l.left.items ++ done ≡ l.fn.rows.items) × AreEdits (tree.get key_cmp l.edits) [] (map (entry_of l.table) done);
}

abbrev pub decreases-rows : goal.decreases-rows
decreases-rows l = vec_len l.left
