use Rattle.sr_survey.proofs.Keyed.{held_keyed}
use Rattle.sr_survey.proofs.laws.held_rows_have_keys.Goals as goal

pub returns : goal.returns
returns c = record { keyed = held_keyed }
