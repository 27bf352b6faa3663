use Rattle.std.proofs.Common.{◌≡◌, length}
use Rattle.sr_catalog_schema.specs.Firsts.{first_among}
use Rattle.sr_catalog_ddl.specs.Publications.{absent_in, table_in}
use Rattle.sr_catalog_ddl.proofs.publications.first_absent_in.Given as goal

abbrev pub invariant-articles : goal.invariant-articles
invariant-articles l = first_among (λ a. absent_in a (table_in l.schema a)) l.rest ≡ first_among (λ a. absent_in a (table_in l.schema a)) l.rule.articles

abbrev pub decreases-articles : goal.decreases-articles
decreases-articles l = length l.rest
