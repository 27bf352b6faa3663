use Rattle.std.proofs.Common.{◌≡◌, ◌++◌, filter_map, length}
use Rattle.sr_catalog_schema.specs.Members.{column_name}
use Rattle.sr_catalog_schema.specs.Names.{named}
use Rattle.sr_publish.proofs.articles.columns_of.Given as goal

abbrev pub invariant-names : goal.invariant-names
invariant-names l = l.columns.items ++ filter_map (λ n. named column_name n l.table.columns) l.rest ≡ filter_map (λ n. named column_name n l.table.columns) l.names

abbrev pub decreases-names : goal.decreases-names
decreases-names l = length l.rest
