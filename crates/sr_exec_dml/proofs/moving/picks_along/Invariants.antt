use Rattle.std.proofs.Common.{◌≡◌, length}
use Rattle.std.specs.Option.{option_copied}
use Rattle.sr_rows.specs.Walks.{table_rows}
use Rattle.sr_exec_dml.specs.Inner.Edits.{picks_of, prefixed}
use Rattle.sr_exec_dml.proofs.moving.picks_along.Given as goal

-- what is picked of the rows that are left stands behind what is picked
abbrev pub invariant-rows : goal.invariant-rows
invariant-rows l = prefixed l.picks.items (picks_of l.table (option_copied l.prepared.sets) l.prepared.condition.now l.walk) ≡ picks_of l.table (option_copied l.prepared.sets) l.prepared.condition.now (table_rows l.rows.rows l.table.name)

abbrev pub decreases-rows : goal.decreases-rows
decreases-rows l = length l.walk
