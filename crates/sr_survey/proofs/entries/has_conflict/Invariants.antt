use Rattle.std.proofs.Common.{◌≡◌, length}
use Rattle.std.specs.List.{list_any}
use Rattle.sr_survey.specs.Inner.Concerning.{is_conflict}
use Rattle.sr_survey.proofs.entries.has_conflict.Given as goal

abbrev pub invariant-ops : goal.invariant-ops
invariant-ops l = list_any (λ p. is_conflict p.1) l.ops ≡ list_any (λ p. is_conflict p.1) l.left

abbrev pub decreases-ops : goal.decreases-ops
decreases-ops l = length l.left
