use Rattle.sr_survey.proofs.Unheld.{change_unheld}
use Rattle.sr_survey.proofs.laws.unheld_gives_nothing.Goals as goal

pub returns : goal.returns
returns c = record { change = change_unheld }
