use Rattle.std.proofs.Common.{◌≡◌, ◌+◌, length}
use Rattle.sr_rows.specs.Walks.{table_rows}
use Rattle.dbremote_command.proofs.shown_count.count_in.Given as goal

-- the rows that were counted and those that are left are all
abbrev pub invariant-rows : goal.invariant-rows
invariant-rows l = l.count + length l.walk ≡ length (table_rows l.rows.rows l.table)

abbrev pub decreases-rows : goal.decreases-rows
decreases-rows l = length l.walk
