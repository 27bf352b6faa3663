use Rattle.std.proofs.Common.{◌↔◌, length}
use Rattle.std.specs.List.{AllByRecursion}
use Rattle.sr_world_entries.specs.Inner.Ends.{IsShortTable}
use Rattle.sr_world_entries.proofs.shortness.are_short_tables.Given as goal

-- all are short where those that are left are
abbrev pub invariant-tables : goal.invariant-tables
invariant-tables l = AllByRecursion IsShortTable l.left ↔ AllByRecursion IsShortTable l.tables

abbrev pub decreases-tables : goal.decreases-tables
decreases-tables l = length l.left
