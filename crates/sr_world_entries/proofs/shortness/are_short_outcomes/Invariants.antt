use Rattle.std.proofs.Common.{◌↔◌, length}
use Rattle.std.specs.List.{AllByRecursion}
use Rattle.sr_logform.specs.Outcomes.{IsShortOutcome}
use Rattle.sr_world_entries.proofs.shortness.are_short_outcomes.Given as goal

-- all are short where those that are left are
abbrev pub invariant-ops : goal.invariant-ops
invariant-ops l = AllByRecursion (λ p. IsShortOutcome p.1) l.left ↔ AllByRecursion (λ p. IsShortOutcome p.1) l.ops

abbrev pub decreases-ops : goal.decreases-ops
decreases-ops l = length l.left
