use Rattle.std.proofs.Common.{◌≡◌, length}
use Rattle.sr_exec_dml.specs.Inner.Edits.{prefixed}
use Rattle.sr_exec_dml.specs.Inner.Making.{given_row}
use Rattle.sr_exec_dml.proofs.inserting.given_row_of_several.Given as goal

abbrev pub invariant-columns : goal.invariant-columns
invariant-columns l = prefixed l.values.items (given_row l.exprs l.left l.places_left) ≡ given_row l.exprs l.columns l.places

abbrev pub decreases-columns : goal.decreases-columns
decreases-columns l = length l.left
