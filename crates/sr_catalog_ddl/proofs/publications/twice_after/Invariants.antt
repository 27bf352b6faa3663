use Rattle.std.proofs.Common.{◌≡◌, length}
use Rattle.sr_catalog_ddl.specs.Publications.{twice_in_articles}
use Rattle.sr_catalog_ddl.proofs.publications.twice_after.Given as goal

abbrev pub invariant-articles : goal.invariant-articles
invariant-articles l = twice_in_articles l.seen l.rest ≡ twice_in_articles l.fn.seen l.articles

abbrev pub decreases-articles : goal.decreases-articles
decreases-articles l = length l.rest
