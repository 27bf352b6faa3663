use Rattle.std.proofs.Common.{◌≡◌, ◌++◌, length, slice_get}
use Rattle.std.specs.Prelude.{filter_map, option_map}
use Rattle.sr_catalog_schema.specs.Members.{column_name, key_names}
use Rattle.sr_catalog_schema.proofs.columns.key_names.Given as goal

abbrev pub invariant-key : goal.invariant-key
invariant-key l = l.names.items ++ filter_map (λ i. option_map column_name (slice_get l.table.columns i)) l.rest ≡ key_names l.table

abbrev pub decreases-key : goal.decreases-key
decreases-key l = length l.rest
