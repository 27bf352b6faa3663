use Rattle.std.proofs.Common.{◌≡◌, length}
use Rattle.std.specs.Vec.Iter.{into_iter_items, into_iter_len}
use Rattle.sr_exec_dml.specs.Inner.Pending.{and_pending, AreWhole}
use Rattle.sr_exec_dml.specs.Inner.Unmoving.{Counted, behind}
use Rattle.sr_exec_dml.proofs.together.note_all.Given as goal

-- what is left stands behind what is found
abbrev pub invariant-olds : goal.invariant-olds
invariant-olds l = record {
  noted : (rest : Counted) → behind l.fn.found.list.items l.fn.found.count (and_pending l.table.name (length l.table.columns) l.fn.pending.olds.items l.fn.pending.values.items rest) ≡ behind l.found.list.items l.found.count (and_pending l.table.name (length l.table.columns) (into_iter_items l.left) l.block rest);
  whole : AreWhole (length l.table.columns) (into_iter_items l.left) l.block;
}

abbrev pub decreases-olds : goal.decreases-olds
decreases-olds l = into_iter_len l.left
