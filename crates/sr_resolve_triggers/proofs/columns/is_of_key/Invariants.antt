use Rattle.std.proofs.Common.{◌≡◌, length}
use Rattle.std.specs.Prelude.{filter_map, slice_get}
use Rattle.std.specs.Option.{option_map}
use Rattle.sr_catalog_schema.specs.Firsts.{has}
use Rattle.sr_catalog_schema.specs.Members.{column_name, key_names}
use Rattle.sr_resolve_triggers.proofs.columns.is_of_key.Given as goal

abbrev pub invariant-places : goal.invariant-places
invariant-places l = has (filter_map (λ i. option_map column_name (slice_get l.table.columns i)) l.left) l.name ≡ has (key_names l.table) l.name

abbrev pub decreases-places : goal.decreases-places
decreases-places l = length l.left
