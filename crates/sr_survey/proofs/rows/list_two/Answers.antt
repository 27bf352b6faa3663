use Rattle.sr_survey_places.proofs.Joined.{listed_both}
use Rattle.sr_survey.proofs.rows.list_two.Goals as goal

pub returns : goal.returns
returns c = record { listed = listed_both _ _ _ _ _ _ c.in_ok-list_row.ensures.listed c.in_ok-list_row-2.ensures.listed }
