use Rattle.std.proofs.Common.{◌≡◌, length}
use Rattle.sr_catalog_schema.specs.Firsts.{first_among}
use Rattle.sr_query.specs.Checks.{unknown_in_order}
use Rattle.sr_query.proofs.unknown.unknown_in_orders.Given as goal

abbrev pub invariant-order : goal.invariant-order
invariant-order l = first_among (unknown_in_order l.scope) l.left ≡ first_among (unknown_in_order l.scope) l.order

abbrev pub decreases-order : goal.decreases-order
decreases-order l = length l.left
