use Rattle.std.proofs.Common.{◌≡◌, length}
use Rattle.sr_survey.specs.Inner.Offices.{has_key}
use Rattle.sr_survey.proofs.offices.has_key.Given as goal

abbrev pub invariant-keys : goal.invariant-keys
invariant-keys l = has_key l.keys l.key ≡ has_key l.left l.key

abbrev pub decreases-keys : goal.decreases-keys
decreases-keys l = length l.left
