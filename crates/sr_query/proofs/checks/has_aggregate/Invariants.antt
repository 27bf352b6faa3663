use Rattle.std.proofs.Common.{◌≡◌, length}
use Rattle.std.specs.List.{list_any}
use Rattle.sr_query.specs.Checks.{is_aggregate}
use Rattle.sr_query.proofs.checks.has_aggregate.Given as goal

abbrev pub invariant-items : goal.invariant-items
invariant-items l = list_any is_aggregate l.left ≡ list_any is_aggregate l.items

abbrev pub decreases-items : goal.decreases-items
decreases-items l = length l.left
