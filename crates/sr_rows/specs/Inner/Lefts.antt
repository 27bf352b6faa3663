-- What a walk has left, whichever form the places have.
use Rattle.std.specs.Prelude.{List, [], Option}
use Rattle.sr_base.specs.declared.value.Value.{Value}
use Rattle.sr_rows.specs.declared.walk.Left.{Left}
use Rattle.sr_rows.specs.declared.walk.Left.TheVariants.{Nothing, Listed, Grown}

-- the places that are left
abbrev pub places_left : Left → List (List Value × Option (List Value))
places_left Nothing = []
places_left (Listed places) = places.now
places_left (Grown places) = places
