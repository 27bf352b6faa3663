use Rattle.std.proofs.Common.{◌≡◌, ◌++◌, flat_map, option_copied, length}
use Rattle.sr_scan.specs.Given.{row_synced}
use Rattle.sr_scan.proofs.synchronized.tell_rows.Given as goal

abbrev pub invariant-rows : goal.invariant-rows
invariant-rows l = l.ops.items ++ flat_map (row_synced (option_copied l.view) l.table) l.left ≡ l.fn.ops.items ++ flat_map (row_synced (option_copied l.view) l.table) l.rows

abbrev pub decreases-rows : goal.decreases-rows
decreases-rows l = length l.left
