use Rattle.sr_survey.proofs.Keeping.{kept}
use Rattle.sr_survey.proofs.laws.a_survey_keeps_up.Goals as goal

pub returns : goal.returns
returns c = record { kept = kept }
