use Rattle.sr_survey_places.proofs.Joined.{listed_both}
use Rattle.sr_survey.proofs.entries.list_pass.Goals as goal

pub returns : goal.returns
returns c = record { listed = listed_both _ _ _ _ _ _ c.in_ok-list_users.ensures.listed c.in_ok-list_here.ensures.listed }
