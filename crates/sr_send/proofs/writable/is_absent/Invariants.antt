use Rattle.std.proofs.Common.{◌≡◌, ◌↔◌, length, map}
use Rattle.std.specs.List.{AllByRecursion}
use Rattle.sr_send.proofs.writable.is_absent.Given as goal

abbrev pub invariant-others : goal.invariant-others
invariant-others g l = AllByRecursion (λ other. ¬ (l.name ≡ other)) (map g.T.Named.name_of l.left) ↔ AllByRecursion (λ other. ¬ (l.name ≡ other)) (map g.T.Named.name_of l.others)

abbrev pub decreases-others : goal.decreases-others
decreases-others g l = length l.left
