-- What the places of a table are, whichever form they have.
use Rattle.std.specs.Prelude.{List, Option}
use Rattle.std.specs.FinMap as map
use Rattle.sr_base.specs.declared.value.Value.{Value}
use Rattle.sr_base.specs.Order.{key_cmp}
use Rattle.sr_rows.specs.declared.table.Places.{Places}
use Rattle.sr_rows.specs.declared.table.Places.TheVariants.{Listed, Grown}

-- the places of a table
abbrev pub places_of : Places → map.FinMap key_cmp (Option (List Value))
places_of (Listed places) = places
places_of (Grown places) = places
