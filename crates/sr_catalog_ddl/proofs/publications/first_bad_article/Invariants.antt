use Rattle.std.proofs.Common.{◌≡◌, length}
use Rattle.sr_catalog_schema.specs.Firsts.{first_among, where_true}
use Rattle.sr_catalog_ddl.specs.Publications.{is_bad_article, table_in}
use Rattle.sr_catalog_ddl.proofs.publications.first_bad_article.Given as goal

abbrev pub invariant-articles : goal.invariant-articles
invariant-articles l = first_among (λ a. where_true (is_bad_article a (table_in l.schema a)) a.table) l.rest ≡ first_among (λ a. where_true (is_bad_article a (table_in l.schema a)) a.table) l.rule.articles

abbrev pub decreases-articles : goal.decreases-articles
decreases-articles l = length l.rest
