use Rattle.std.proofs.Common.{◌≡◌, length}
use Rattle.sr_eval.specs.Meanings.{found_at}
use Rattle.sr_survey.proofs.keys.found_at.Given as goal

abbrev pub invariant-columns : goal.invariant-columns
invariant-columns l = found_at l.scope l.row l.alias l.name ≡ found_at l.columns_left l.values_left l.alias l.name

abbrev pub decreases-columns : goal.decreases-columns
decreases-columns l = length l.columns_left
