use Rattle.std.proofs.Common.{◌≡◌, ◌↔◌, false, length}
use Rattle.std.specs.List.{AllByRecursion}
use Rattle.sr_receive_judged.specs.Inner.Judged.{is_exec}
use Rattle.sr_receive_judged.proofs.judging.has_exec.Given as goal

-- none of all is an Exec where none of those that are left is
abbrev pub invariant-ops : goal.invariant-ops
invariant-ops l = AllByRecursion (λ op. is_exec op ≡ false) l.left ↔ AllByRecursion (λ op. is_exec op ≡ false) l.ops

abbrev pub decreases-ops : goal.decreases-ops
decreases-ops l = length l.left
