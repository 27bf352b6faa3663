use Rattle.std.proofs.Common.{◌≡◌, ◌++◌, List, Option, vec_len}
use Rattle.std.specs.BTreeMap as tree
use Rattle.sr_base.specs.declared.value.Value.{Value}
use Rattle.sr_base.specs.Order.{key_cmp}
use Rattle.sr_exec_dml.specs.Inner.Edits.{AreEdits, taken_of, put_of}
use Rattle.sr_exec_dml.proofs.edits.edits_of_picks.Given as goal

abbrev pub invariant-picks : goal.invariant-picks
invariant-picks l = record {
  ordered : tree.IsOrdered key_cmp l.edits;
  edits : (done : List (List Value × Option (List Value))) × (l.left.items ++ done ≡ l.fn.picks.items) × AreEdits (tree.get key_cmp l.edits) (taken_of done) (put_of l.table done);
}

abbrev pub decreases-picks : goal.decreases-picks
decreases-picks l = vec_len l.left
