use Rattle.sr_survey.proofs.Keeping.{begun_surveyed}
use Rattle.sr_survey.proofs.laws.a_survey_begins.Goals as goal

pub returns : goal.returns
returns c = record { begins = begun_surveyed }
