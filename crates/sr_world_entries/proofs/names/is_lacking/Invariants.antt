use Rattle.std.proofs.Common.{◌≡◌, ◌↔◌, length}
use Rattle.std.specs.List.{AllByRecursion}
use Rattle.sr_world_entries.proofs.names.is_lacking.Given as goal

-- it is none of all where it is none of those that are left
abbrev pub invariant-others : goal.invariant-others
invariant-others l = AllByRecursion (λ other. ¬ (l.name ≡ other)) l.others ↔ AllByRecursion (λ other. ¬ (l.name ≡ other)) l.left

abbrev pub decreases-others : goal.decreases-others
decreases-others l = length l.left
