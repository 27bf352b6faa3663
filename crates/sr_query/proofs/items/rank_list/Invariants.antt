use Rattle.std.proofs.Common.{◌≡◌, ◌++◌, length}
use Rattle.sr_eval.specs.Inner.Bounds.{values_of}
use Rattle.sr_query.specs.Inner.Orders.{ranks_at}
use Rattle.sr_query.proofs.items.rank_list.Given as goal

abbrev pub invariant-places : goal.invariant-places
invariant-places l = l.ranks.items ++ ranks_at l.left (values_of l.combination) ≡ ranks_at l.places (values_of l.combination)

abbrev pub decreases-places : goal.decreases-places
decreases-places l = length l.left
