use Rattle.sr_survey.proofs.Alike.{told_own, told_view, told_pass, told_taken}
use Rattle.sr_survey.proofs.laws.told_alike.Goals as goal

pub returns : goal.returns
returns c = record { own = told_own; view = told_view; pass = told_pass; taken = told_taken }
