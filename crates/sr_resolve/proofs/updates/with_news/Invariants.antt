use Rattle.std.proofs.Common.{◌≡◌, ◌++◌, length}
use Rattle.sr_resolve.specs.Named.{with_news}
use Rattle.sr_resolve.proofs.updates.with_news.Given as goal

abbrev pub invariant-values : goal.invariant-values
invariant-values l = l.values.items ++ with_news l.news_left l.left ≡ with_news l.news l.row

abbrev pub decreases-values : goal.decreases-values
decreases-values l = length l.left
