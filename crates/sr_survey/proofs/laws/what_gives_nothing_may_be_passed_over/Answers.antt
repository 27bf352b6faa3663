use Rattle.sr_survey.proofs.Quiet.{passed_over}
use Rattle.sr_survey.proofs.laws.what_gives_nothing_may_be_passed_over.Goals as goal

pub returns : goal.returns
returns c = record { passed = passed_over }
