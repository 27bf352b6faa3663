use Rattle.sr_survey_brief.proofs.Briefs.{whole_brief}
use Rattle.sr_survey_brief.proofs.reading.read_whole.Goals as goal

pub returns-clause-brief : goal.returns-clause-brief
returns-clause-brief c = λ entry h e. whole_brief c.read_entry.result entry (c.read_entry.ensures.only entry h e)
