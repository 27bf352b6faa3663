-- The columns and values that an expression is evaluated over.
use Rattle.std.specs.Prelude.{◌≡◌, ℕ, List, [], ◌∷◌, Option, Some}
use Rattle.sr_base_dates.specs.Fitting.{fitted}
use Rattle.sr_base.specs.declared.value.Value.{Value as Cell}
use Rattle.sr_base.specs.declared.value.Kind.{Kind}

-- each column has one value, which fits it as it is
abbrev pub IsRowOf : List (Option (List ℕ) × List ℕ × Kind) → List Cell → Type 0
IsRowOf [] [] = Unit {0}
IsRowOf [] (v ∷ values) = ⊥
IsRowOf (c ∷ columns) [] = ⊥
IsRowOf (c ∷ columns) (v ∷ values) = (fitted v c.2 ≡ Some v) × IsRowOf columns values
