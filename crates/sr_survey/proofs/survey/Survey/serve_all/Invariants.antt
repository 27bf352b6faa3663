use Rattle.std.proofs.Common.{length}
use Rattle.sr_survey.specs.Inner.Taking.{ServesAll}
use Rattle.sr_survey.specs.declared.survey.Survey.{Survey}
use Rattle.sr_survey.proofs.survey.Survey.serve_all.Given as goal

abbrev pub invariant-subscriptions : goal.invariant-subscriptions
invariant-subscriptions l = (s : Survey) → ServesAll l.self l.left s → ServesAll l.fn.self l.subscriptions s

abbrev pub decreases-subscriptions : goal.decreases-subscriptions
decreases-subscriptions l = length l.left
