use Rattle.std.proofs.Common.{◌≡◌, ◌||◌, ℕ, List, length}
use Rattle.sr_catalog_schema.specs.Firsts.{has}
use Rattle.sr_catalog_ddl.specs.Inner.Elsewhere.{has_table}
use Rattle.sr_catalog_ddl.proofs.elsewhere.set_of.Given as goal

abbrev pub invariant-articles : goal.invariant-articles
invariant-articles l = (table : List ℕ) → (has l.set table || has_table l.left table) ≡ has_table l.articles table

abbrev pub decreases-articles : goal.decreases-articles
decreases-articles l = length l.left
