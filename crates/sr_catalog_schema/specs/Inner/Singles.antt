-- Items of which no two pass a test.
use Rattle.std.specs.Prelude.{◌≡◌, Bool, true, false, ⊤, List, [], ◌∷◌}
use Rattle.std.specs.List.{list_any}

-- one at most passes
unfoldable pub IsSingle : {A : Type 0} → (A → Bool) → List A → Type 0
IsSingle p [] = ⊤
IsSingle p (x ∷ xs) = (p x ≡ true → list_any p xs ≡ false) × IsSingle p xs
