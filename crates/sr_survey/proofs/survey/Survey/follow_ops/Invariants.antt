use Rattle.std.proofs.Common.{length, map}
use Rattle.sr_scan.specs.Inner.Meanings.{text_done}
use Rattle.sr_survey.specs.Inner.Texts.{FollowsTexts}
use Rattle.sr_survey.specs.declared.survey.Survey.{Survey}
use Rattle.sr_survey.proofs.survey.Survey.follow_ops.Given as goal

abbrev pub invariant-ops : goal.invariant-ops
invariant-ops l = (s : Survey) → FollowsTexts l.self (map (λ p. text_done p.0 p.1) l.left) l.at s → FollowsTexts l.fn.self (map (λ p. text_done p.0 p.1) l.ops) l.at s

abbrev pub decreases-ops : goal.decreases-ops
decreases-ops l = length l.left
