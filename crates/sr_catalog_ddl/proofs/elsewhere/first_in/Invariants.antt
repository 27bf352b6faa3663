use Rattle.std.proofs.Common.{◌≡◌, length}
use Rattle.sr_catalog_schema.specs.Firsts.{first_among, has, where_true}
use Rattle.sr_catalog_ddl.proofs.elsewhere.first_in.Given as goal

abbrev pub invariant-articles : goal.invariant-articles
invariant-articles l =
    first_among (λ a. where_true (has l.set a.table) a.table) l.left ≡ first_among (λ a. where_true (has l.set a.table) a.table) l.articles

abbrev pub decreases-articles : goal.decreases-articles
decreases-articles l = length l.left
