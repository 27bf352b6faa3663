use Rattle.sr_survey.proofs.Keeping.{entry_concerns}
use Rattle.sr_survey.proofs.laws.what_is_not_listed_gives_nothing.Goals as goal

pub returns : goal.returns
returns c = record { listed = entry_concerns }
