use Rattle.sr_scan.proofs.TwoValues.{all_differ}
use Rattle.sr_scan.proofs.laws.what_differs_has_two_values.Goals as goal

pub returns : goal.returns
returns c = record { differ = all_differ }
