use Rattle.std.proofs.Common.{◌≡◌, map, length}
use Rattle.sr_exec_dml.specs.Inner.Edits.{prefixed}
use Rattle.sr_exec_dml.specs.Inner.Making.{new_row}
use Rattle.sr_exec_where.specs.Inner.Preparing.{resolution_in}
use Rattle.sr_exec_dml.proofs.together.add_updated.Given as goal

abbrev pub invariant-columns : goal.invariant-columns
invariant-columns l = prefixed l.values.items (new_row l.row l.left l.olds (map resolution_in l.sets_left)) ≡ prefixed l.fn.values.items (new_row l.row l.columns l.row (map resolution_in l.sets))

abbrev pub decreases-columns : goal.decreases-columns
decreases-columns l = length l.left
