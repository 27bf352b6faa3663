use Rattle.std.proofs.Common.{◌≡◌, ◌++◌, Some, filter_map, length}
use Rattle.std.specs.Option.{option_copied}
use Rattle.sr_publish.specs.Views.{shown_in}
use Rattle.sr_rows.specs.Walks.{Entry, table_rows}
use Rattle.sr_rows.specs.Inner.Walks.{past}
use Rattle.sr_world_entries.proofs.saying.rows_shown.Given as goal

-- the rows so far, and what is shown of those behind the last key
abbrev pub invariant-rows : goal.invariant-rows
invariant-rows l = l.shown.items ++ filter_map (λ (e : Entry). shown_in (Some l.view) e.1) (past (option_copied l.after) (table_rows l.rows.rows l.table))
    ≡ filter_map (λ (e : Entry). shown_in (Some l.view) e.1) (table_rows l.rows.rows l.table)

abbrev pub decreases-rows : goal.decreases-rows
decreases-rows l = length (past (option_copied l.after) (table_rows l.rows.rows l.table))
