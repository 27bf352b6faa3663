use Rattle.std.proofs.Common.{◌≡◌, length}
use Rattle.sr_eval.specs.Meanings.{found_at}
use Rattle.sr_eval.proofs.meaning.value_in.Given as goal

abbrev pub invariant-columns : goal.invariant-columns
invariant-columns l = found_at l.columns_left l.values_left l.table l.name ≡ found_at l.source.scope.now l.source.values.now l.table l.name

abbrev pub decreases-columns : goal.decreases-columns
decreases-columns l = length l.columns_left
