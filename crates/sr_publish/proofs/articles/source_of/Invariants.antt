use Rattle.std.proofs.Common.{◌≡◌, length}
use Rattle.sr_catalog_schema.specs.Firsts.{first_among}
use Rattle.sr_publish.specs.SubscribedTables.{source_in, source_of}
use Rattle.sr_publish.proofs.articles.source_of.Given as goal

abbrev pub invariant-subscriptions : goal.invariant-subscriptions
invariant-subscriptions l = source_of l.catalog l.user l.table ≡ first_among (source_in l.catalog l.user l.table) l.rest

abbrev pub decreases-subscriptions : goal.decreases-subscriptions
decreases-subscriptions l = length l.rest
