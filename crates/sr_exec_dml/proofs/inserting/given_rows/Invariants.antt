use Rattle.std.proofs.Common.{◌≡◌, length}
use Rattle.sr_exec_dml.specs.Inner.Edits.{prefixed}
use Rattle.sr_exec_dml.specs.Inner.Making.{given_row}
use Rattle.sr_exec_dml.specs.Sequences.{each}
use Rattle.sr_exec_dml.proofs.inserting.given_rows.Given as goal

abbrev pub invariant-rows : goal.invariant-rows
invariant-rows l = prefixed l.added.items (each (λ es. given_row es l.columns l.places) l.left) ≡ each (λ es. given_row es l.columns l.places) l.rows

abbrev pub decreases-rows : goal.decreases-rows
decreases-rows l = length l.left
