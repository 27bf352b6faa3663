use Rattle.std.proofs.Common.{◌≡◌, length}
use Rattle.sr_query.specs.Checks.{all_pass, is_aggregate}
use Rattle.sr_query.proofs.checks.are_aggregates.Given as goal

abbrev pub invariant-items : goal.invariant-items
invariant-items l = all_pass is_aggregate l.left ≡ all_pass is_aggregate l.items

abbrev pub decreases-items : goal.decreases-items
decreases-items l = length l.left
