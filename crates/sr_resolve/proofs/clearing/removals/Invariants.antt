use Rattle.std.proofs.Common.{◌≡◌, ◌++◌, length, map}
use Rattle.std.specs.Option.{option_copied}
use Rattle.sr_rows.specs.Walks.{Entry, table_rows}
use Rattle.sr_rows.specs.Inner.Walks.{past}
use Rattle.sr_resolve.specs.Judging.{removal}
use Rattle.sr_resolve.proofs.clearing.removals.Given as goal

abbrev pub invariant-rows : goal.invariant-rows
invariant-rows l = l.changes.items ++ map (λ (e : Entry). removal l.table.name e.1) (past (option_copied l.after) (table_rows l.rows.rows l.table.name))
    ≡ map (λ (e : Entry). removal l.table.name e.1) (table_rows l.rows.rows l.table.name)

abbrev pub decreases-rows : goal.decreases-rows
decreases-rows l = length (past (option_copied l.after) (table_rows l.rows.rows l.table.name))
