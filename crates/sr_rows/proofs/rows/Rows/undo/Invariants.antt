-- the changes that are left can be taken back, and lead back to the mark
use Rattle.std.proofs.Common.{◌≡◌, vec_len}
use Rattle.sr_rows.specs.Inner.Gathered.{gathered, filled}
use Rattle.sr_rows.specs.Inner.Undoing.{undone, Undoable}
use Rattle.sr_rows.proofs.rows.Rows.undo.Given as goal

abbrev pub invariant-loop-change : goal.invariant-loop-change
invariant-loop-change l = record {
  undoable : Undoable l.self-inside.changes.items (gathered l.self-inside.tables.entries);
  marked : filled (undone l.self-inside.changes.items (gathered l.self-inside.tables.entries)) ≡ l.fn.self.marked;
}

abbrev pub decreases-loop-change : goal.decreases-loop-change
decreases-loop-change l = vec_len l.self-inside.changes
