use Rattle.std.proofs.Common.{◌≡◌, length}
use Rattle.sr_query.specs.Checks.{all_pass, is_good_order}
use Rattle.sr_query.proofs.checks.is_good_order.Given as goal

abbrev pub invariant-order : goal.invariant-order
invariant-order l = all_pass (is_good_order l.scope) l.left ≡ all_pass (is_good_order l.scope) l.order

abbrev pub decreases-order : goal.decreases-order
decreases-order l = length l.left
