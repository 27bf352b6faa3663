use Rattle.std.proofs.Common.{◌≡◌, ◌++◌, length, map}
use Rattle.sr_catalog_ddl.specs.Publications.{article_of}
use Rattle.sr_catalog_ddl.proofs.publications.publication_of.Given as goal

abbrev pub invariant-articles : goal.invariant-articles
invariant-articles l = l.articles.items ++ map (article_of l.schema) l.rest ≡ map (article_of l.schema) l.rule.articles

abbrev pub decreases-articles : goal.decreases-articles
decreases-articles l = length l.rest
