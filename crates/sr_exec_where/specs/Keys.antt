-- The key that a row has.
use Rattle.std.specs.Prelude.{ℕ, List, map, slice_get, unwrap_or}
use Rattle.sr_base.specs.declared.value.Value.{Value as Cell}
use Rattle.sr_base.specs.declared.value.Value.TheVariants.{Null}

-- the key of a row: its values at the key's places
abbrev pub key_of : List ℕ → List Cell → List Cell
key_of places row = map (λ place. unwrap_or (slice_get row place) Null) places
