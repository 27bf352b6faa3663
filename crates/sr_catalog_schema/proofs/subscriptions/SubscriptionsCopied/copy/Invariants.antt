use Rattle.std.proofs.Common.{◌≡◌, ◌++◌, length}
use Rattle.sr_catalog_schema.proofs.subscriptions.SubscriptionsCopied.copy.Given as goal

abbrev pub invariant-items : goal.invariant-items
invariant-items l = l.copies ++ l.rest ≡ l.self

abbrev pub decreases-items : goal.decreases-items
decreases-items l = length l.rest
