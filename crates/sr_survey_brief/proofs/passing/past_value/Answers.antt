use Rattle.std.proofs.Common.{ℕ, List, sym, subst}
use Rattle.sr_base.specs.Values.{value_spelling, IsValue}
use Rattle.sr_survey_brief.specs.Inner.Passing.{IsPast}
use Rattle.sr_survey_brief.proofs.passing.past_value.Goals as goal

pub returns : goal.returns
returns c = record { past = subst (λ (bytes : List ℕ). IsPast IsValue value_spelling bytes c.in_ok-left.left.now) (sym c.in_ok-tag.ensures.cases.0) c.in_ok-left.ensures.past }
