use Rattle.sr_survey_places.proofs.Joined.{listed_both}
use Rattle.sr_survey.proofs.entries.list_told.Goals as goal

pub returns : goal.returns
returns c = record { listed = listed_both _ _ _ _ _ _ (c.in_ok-list_one.ensures.listed _ c.in_ok-back_key.ensures.key) c.in_ok-list_ops.ensures.listed }
