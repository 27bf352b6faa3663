use Rattle.std.proofs.Common.{◌≡◌, ◌++◌, length, map}
use Rattle.sr_catalog_ddl.specs.Tables.{column_of}
use Rattle.sr_catalog_ddl.proofs.tables.columns_of.Given as goal

abbrev pub invariant-rules : goal.invariant-rules
invariant-rules l = l.columns.items ++ map column_of l.rest ≡ map column_of l.rules

abbrev pub decreases-rules : goal.decreases-rules
decreases-rules l = length l.rest
