use Rattle.std.proofs.Common.{◌≡◌, length}
use Rattle.sr_query.specs.Checks.{all_pass, is_good_item}
use Rattle.sr_query.proofs.checks.is_good_list.Given as goal

abbrev pub invariant-items : goal.invariant-items
invariant-items l = all_pass (is_good_item l.scope) l.left ≡ all_pass (is_good_item l.scope) l.items

abbrev pub decreases-items : goal.decreases-items
decreases-items l = length l.left
