use Rattle.std.proofs.Common.{◌≡◌, ◌++◌, flat_map, length}
use Rattle.sr_scan.specs.Given.{table_synced}
use Rattle.sr_scan.proofs.synchronized.tell_tables.Given as goal

abbrev pub invariant-tables : goal.invariant-tables
invariant-tables l = l.ops.items ++ flat_map (table_synced l.catalog l.user) l.left ≡ l.fn.ops.items ++ flat_map (table_synced l.catalog l.user) l.tables

abbrev pub decreases-tables : goal.decreases-tables
decreases-tables l = length l.left
