use Rattle.std.proofs.Common.{◌≡◌, length}
use Rattle.sr_rows.specs.Marks.{rows_of_table}
use Rattle.sr_exec_dml.specs.Inner.Edits.{settled, prefixed}
use Rattle.sr_exec_dml.proofs.settling.settle.Given as goal

abbrev pub invariant-edits : goal.invariant-edits
invariant-edits l = prefixed l.changes.items (settled l.table (rows_of_table l.rows.rows l.table) l.left.entries) ≡ settled l.table (rows_of_table l.rows.rows l.table) l.fn.edits.entries

abbrev pub decreases-edits : goal.decreases-edits
decreases-edits l = length l.left.entries
