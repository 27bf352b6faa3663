use Rattle.std.proofs.Common.{◌≡◌, length}
use Rattle.sr_catalog_schema.specs.Firsts.{first_among}
use Rattle.sr_query.specs.Checks.{unknown_in_item}
use Rattle.sr_query.proofs.unknown.unknown_in_list.Given as goal

abbrev pub invariant-items : goal.invariant-items
invariant-items l = first_among (unknown_in_item l.scope) l.left ≡ first_among (unknown_in_item l.scope) l.items

abbrev pub decreases-items : goal.decreases-items
decreases-items l = length l.left
