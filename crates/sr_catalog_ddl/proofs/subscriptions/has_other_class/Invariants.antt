use Rattle.std.proofs.Common.{◌≡◌, length}
use Rattle.std.specs.List.{list_any}
use Rattle.sr_catalog_schema.specs.Names.{named}
use Rattle.sr_catalog_ddl.specs.Subscriptions.{differs}
use Rattle.sr_catalog_schema.specs.Members.{table_name}
use Rattle.sr_catalog_ddl.proofs.subscriptions.has_other_class.Given as goal

abbrev pub invariant-articles : goal.invariant-articles
invariant-articles l =
    list_any (λ a. differs (named table_name a.table l.schema.tables) l.value a.by) l.rest
    ≡ list_any (λ a. differs (named table_name a.table l.schema.tables) l.value a.by) l.articles

abbrev pub decreases-articles : goal.decreases-articles
decreases-articles l = length l.rest
