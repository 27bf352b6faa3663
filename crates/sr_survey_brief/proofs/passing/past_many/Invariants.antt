use Rattle.std.proofs.Common.{◌-◌}
use Rattle.sr_logform.specs.Ops.{column_spelling}
use Rattle.sr_survey_brief.specs.Inner.Passing.{IsColumn}
use Rattle.sr_survey_brief.proofs.Past.{Passes}
use Rattle.sr_survey_brief.proofs.passing.past_many.Given as goal

abbrev pub invariant-loop : goal.invariant-loop
invariant-loop l = Passes IsColumn column_spelling l.count l.bytes l.rest (l.count - l.counter)
