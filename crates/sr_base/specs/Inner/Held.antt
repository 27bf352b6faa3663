-- The values that a key holds, however many it has.
use Rattle.std.specs.Prelude.{List, [], ◌∷◌}
use Rattle.sr_base.specs.declared.key.Held.{Held}
use Rattle.sr_base.specs.declared.key.Held.TheVariants.{One, Many}
use Rattle.sr_base.specs.declared.value.Value.{Value}

-- the values of a key, as it holds them
abbrev pub values_of : Held → List Value
values_of (One value) = value ∷ []
values_of (Many row) = row
