use Rattle.sr_survey.proofs.Moving.{after_alike}
use Rattle.sr_survey.proofs.laws.shares_stay.Goals as goal

pub returns : goal.returns
returns c = record { stay = after_alike }
