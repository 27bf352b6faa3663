use Rattle.std.proofs.Common.{◌↔◌, length}
use Rattle.std.specs.List.{AllByRecursion}
use Rattle.sr_base.specs.Fields.{IsListOf}
use Rattle.sr_base.specs.Values.{IsShort}
use Rattle.sr_world_entries.proofs.shortness.are_short_rows.Given as goal

-- all are short where those that are left are
abbrev pub invariant-rows : goal.invariant-rows
invariant-rows l = AllByRecursion (IsListOf IsShort) l.left ↔ AllByRecursion (IsListOf IsShort) l.rows

abbrev pub decreases-rows : goal.decreases-rows
decreases-rows l = length l.left
