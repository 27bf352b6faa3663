use Rattle.std.proofs.Common.{◌≡◌, ◌++◌, [], map, length}
use Rattle.sr_book.specs.Entries.{Name}
use Rattle.sr_world_steps.proofs.world.empty_histories.Given as goal

-- the histories so far, with those of the names that are left, are all
abbrev pub invariant-names : goal.invariant-names
invariant-names l = l.histories.items ++ map (λ (name : Name). (name, [])) l.left ≡ map (λ (name : Name). (name, [])) l.names

abbrev pub decreases-names : goal.decreases-names
decreases-names l = length l.left
