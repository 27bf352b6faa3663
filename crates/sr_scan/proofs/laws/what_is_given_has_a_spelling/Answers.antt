use Rattle.sr_scan.proofs.Spelling.{spelled}
use Rattle.sr_scan.proofs.laws.what_is_given_has_a_spelling.Goals as goal

pub returns : goal.returns
returns c = record { spelled = spelled }
