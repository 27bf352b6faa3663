use Rattle.std.proofs.Common.{◌≡◌, ◌+◌, filter, length}
use Rattle.sr_rows.specs.Walks.{table_rows}
use Rattle.dbremote_demo_draws.specs.Agreement.{differs_below}
use Rattle.dbremote_demo_draws.proofs.agreeing.differing_below.Given as goal

-- those that were counted and those of the rows that are left are all
abbrev pub invariant-rows : goal.invariant-rows
invariant-rows l =
    l.count + length (filter (differs_below l.above.rows l.table l.own) l.walk) ≡ length (filter (differs_below l.above.rows l.table l.own) (table_rows l.below.rows l.table))

abbrev pub decreases-rows : goal.decreases-rows
decreases-rows l = length l.walk
