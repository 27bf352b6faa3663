use Rattle.std.proofs.Common.{◌≡◌, ◌++◌, filter_map, length}
use Rattle.sr_publish.specs.SubscribedTables.{value_in}
use Rattle.sr_publish.proofs.subscribed.values_of.Given as goal

abbrev pub invariant-subscriptions : goal.invariant-subscriptions
invariant-subscriptions l = l.values.items ++ filter_map (value_in l.user l.publication) l.rest ≡ filter_map (value_in l.user l.publication) l.subscriptions

abbrev pub decreases-subscriptions : goal.decreases-subscriptions
decreases-subscriptions l = length l.rest
