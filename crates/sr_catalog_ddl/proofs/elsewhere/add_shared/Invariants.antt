use Rattle.std.proofs.Common.{length}
use Rattle.sr_catalog_ddl.proofs.Shared.{SharesLeft}
use Rattle.sr_catalog_ddl.proofs.elsewhere.add_shared.Given as goal

abbrev pub invariant-articles : goal.invariant-articles
invariant-articles l = SharesLeft l.own l.articles l.fn.found l.left l.found

abbrev pub decreases-articles : goal.decreases-articles
decreases-articles l = length l.left
