-- The rows of a SELECT in order.
use Rattle.std.specs.Prelude.{Bool, cond, List, [], ◌∷◌}

-- an item before the first that is not less
abbrev pub put_in : {A : Type 0} → (A → A → Bool) → A → List A → List A
put_in less x [] = x ∷ []
put_in less x (y ∷ sorted) = cond (less y x) (y ∷ put_in less x sorted) (x ∷ y ∷ sorted)

-- items in order, of those of which neither is less the earlier one first
abbrev pub sorted_by : {A : Type 0} → (A → A → Bool) → List A → List A
sorted_by less [] = []
sorted_by less (x ∷ xs) = put_in less x (sorted_by less xs)
