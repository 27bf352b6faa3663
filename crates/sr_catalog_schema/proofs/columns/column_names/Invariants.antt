use Rattle.std.proofs.Common.{◌≡◌, ◌++◌, length, map}
use Rattle.sr_catalog_schema.specs.Members.{column_name, column_names}
use Rattle.sr_catalog_schema.proofs.columns.column_names.Given as goal

abbrev pub invariant-columns : goal.invariant-columns
invariant-columns l = l.names.items ++ map column_name l.rest ≡ column_names l.table

abbrev pub decreases-columns : goal.decreases-columns
decreases-columns l = length l.rest
