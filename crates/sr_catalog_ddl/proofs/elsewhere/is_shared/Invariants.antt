use Rattle.std.proofs.Common.{◌≡◌, length}
use Rattle.std.specs.List.{list_any}
use Rattle.sr_catalog_ddl.specs.Inner.Elsewhere.{has_table}
use Rattle.sr_catalog_ddl.proofs.elsewhere.is_shared.Given as goal

abbrev pub invariant-articles : goal.invariant-articles
invariant-articles l = list_any (λ a. has_table l.own a.table) l.left ≡ list_any (λ a. has_table l.own a.table) l.articles

abbrev pub decreases-articles : goal.decreases-articles
decreases-articles l = length l.left
