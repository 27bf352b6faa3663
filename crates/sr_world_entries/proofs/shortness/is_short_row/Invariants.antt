use Rattle.std.proofs.Common.{◌↔◌, length}
use Rattle.std.specs.List.{AllByRecursion}
use Rattle.sr_base.specs.Values.{IsShort}
use Rattle.sr_world_entries.proofs.shortness.is_short_row.Given as goal

-- all are short where those that are left are
abbrev pub invariant-values : goal.invariant-values
invariant-values l = AllByRecursion IsShort l.left ↔ AllByRecursion IsShort l.values

abbrev pub decreases-values : goal.decreases-values
decreases-values l = length l.left
