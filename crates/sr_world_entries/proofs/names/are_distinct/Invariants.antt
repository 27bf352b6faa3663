use Rattle.std.proofs.Common.{◌↔◌, length}
use Rattle.sr_logform.specs.Rules.{AreDistinct}
use Rattle.sr_world_entries.proofs.names.are_distinct.Given as goal

-- all are distinct where those that are left are
abbrev pub invariant-names : goal.invariant-names
invariant-names l = AreDistinct l.names ↔ AreDistinct l.left

abbrev pub decreases-names : goal.decreases-names
decreases-names l = length l.left
