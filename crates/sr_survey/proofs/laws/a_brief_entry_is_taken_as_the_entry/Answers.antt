use Rattle.sr_survey.proofs.Brief.{takes_brief}
use Rattle.sr_survey.proofs.laws.a_brief_entry_is_taken_as_the_entry.Goals as goal

pub returns : goal.returns
returns c = record { taken = takes_brief }
